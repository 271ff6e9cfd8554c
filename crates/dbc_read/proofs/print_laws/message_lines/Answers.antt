use Rattle.dbc_read.proofs.Lines.{message_lines}
use Rattle.dbc_read.proofs.print_laws.message_lines.Goals as goal

pub returns : goal.returns
returns c = message_lines
