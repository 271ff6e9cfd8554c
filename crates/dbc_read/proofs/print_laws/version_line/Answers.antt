use Rattle.dbc_read.proofs.Lines.{version_line}
use Rattle.dbc_read.proofs.print_laws.version_line.Goals as goal

pub returns : goal.returns
returns c = version_line
