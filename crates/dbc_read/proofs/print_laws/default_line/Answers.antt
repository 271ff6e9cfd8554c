use Rattle.dbc_read.proofs.Lines.{default_line}
use Rattle.dbc_read.proofs.print_laws.default_line.Goals as goal

pub returns : goal.returns
returns c = default_line
