use Rattle.std.proofs.Common.{length}
use Rattle.dbc_faults.proofs.pattern.+may_end.Given as goal

abbrev pub decreases-may_end : goal.decreases-may_end
decreases-may_end l = length l.left.now
