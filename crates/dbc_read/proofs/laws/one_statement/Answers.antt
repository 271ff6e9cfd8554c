use Rattle.dbc_read.proofs.Readable.{one_statement}
use Rattle.dbc_read.proofs.laws.one_statement.Goals as goal

pub returns : goal.returns
returns c = one_statement
