use Rattle.dbc_read.proofs.Lines.{mux_line}
use Rattle.dbc_read.proofs.print_laws.mux_line.Goals as goal

pub returns : goal.returns
returns c = mux_line
