use Rattle.dbc_read.proofs.Lines.{values_line}
use Rattle.dbc_read.proofs.print_laws.values_line.Goals as goal

pub returns : goal.returns
returns c = values_line
