use Rattle.dbc_read.proofs.Lines.{signal_line}
use Rattle.dbc_read.proofs.print_laws.signal_line.Goals as goal

pub returns : goal.returns
returns c = signal_line
