use Rattle.dbc_read.proofs.Readable.FaultLines.{faults_are_of_texts}
use Rattle.dbc_read.proofs.laws.faults_are_of_texts.Goals as goal

pub returns : goal.returns
returns c = faults_are_of_texts
