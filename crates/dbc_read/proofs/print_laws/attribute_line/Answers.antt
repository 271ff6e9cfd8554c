use Rattle.dbc_read.proofs.Lines.{attribute_line}
use Rattle.dbc_read.proofs.print_laws.attribute_line.Goals as goal

pub returns : goal.returns
returns c = attribute_line
