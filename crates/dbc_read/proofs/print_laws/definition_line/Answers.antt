use Rattle.dbc_read.proofs.Lines.{definition_line}
use Rattle.dbc_read.proofs.print_laws.definition_line.Goals as goal

pub returns : goal.returns
returns c = definition_line
