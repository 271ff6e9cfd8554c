use Rattle.dbc_read.proofs.Lines.{comment_line}
use Rattle.dbc_read.proofs.print_laws.comment_line.Goals as goal

pub returns : goal.returns
returns c = comment_line
