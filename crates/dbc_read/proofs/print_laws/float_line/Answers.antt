use Rattle.dbc_read.proofs.Lines.{float_line}
use Rattle.dbc_read.proofs.print_laws.float_line.Goals as goal

pub returns : goal.returns
returns c = float_line
