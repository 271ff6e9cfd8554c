use Rattle.dbc_read.proofs.Reprinted.{print_law}
use Rattle.dbc_read.proofs.print_laws.printed_database.Goals as goal

pub returns : goal.returns
returns c = print_law
