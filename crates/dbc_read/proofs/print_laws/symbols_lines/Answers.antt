use Rattle.dbc_read.proofs.Lines.{symbols_lines}
use Rattle.dbc_read.proofs.print_laws.symbols_lines.Goals as goal

pub returns : goal.returns
returns c = symbols_lines
