use Rattle.dbc_read.proofs.Readable.{fault_or_database}
use Rattle.dbc_read.proofs.laws.fault_or_database.Goals as goal

pub returns : goal.returns
returns c = fault_or_database
