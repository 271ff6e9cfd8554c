use Rattle.dbc_read.proofs.Lines.{bit_timing_line}
use Rattle.dbc_read.proofs.print_laws.bit_timing_line.Goals as goal

pub returns : goal.returns
returns c = bit_timing_line
