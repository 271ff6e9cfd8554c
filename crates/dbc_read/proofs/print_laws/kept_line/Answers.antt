use Rattle.dbc_read.proofs.Lines.{kept_line}
use Rattle.dbc_read.proofs.print_laws.kept_line.Goals as goal

pub returns : goal.returns
returns c = kept_line
