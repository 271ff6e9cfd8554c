use Rattle.dbc_read.proofs.Lines.{table_line}
use Rattle.dbc_read.proofs.print_laws.table_line.Goals as goal

pub returns : goal.returns
returns c = table_line
