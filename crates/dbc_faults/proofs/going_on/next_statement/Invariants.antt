use Rattle.std.proofs.Common.{length}
use Rattle.dbc_faults.proofs.going_on.next_statement.Given as goal

abbrev pub decreases-lines : goal.decreases-lines
decreases-lines l = length l.left
