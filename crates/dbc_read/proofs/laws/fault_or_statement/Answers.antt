use Rattle.dbc_read.proofs.Readable.{fault_or_statement}
use Rattle.dbc_read.proofs.laws.fault_or_statement.Goals as goal

pub returns : goal.returns
returns c = fault_or_statement
