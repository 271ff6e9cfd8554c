use Rattle.dbc_read.proofs.Readable.{one_database}
use Rattle.dbc_read.proofs.laws.one_database.Goals as goal

pub returns : goal.returns
returns c = one_database
