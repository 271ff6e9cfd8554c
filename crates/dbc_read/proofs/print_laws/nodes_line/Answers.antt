use Rattle.dbc_read.proofs.Lines.{nodes_line}
use Rattle.dbc_read.proofs.print_laws.nodes_line.Goals as goal

pub returns : goal.returns
returns c = nodes_line
