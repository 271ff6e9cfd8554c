use Rattle.std.proofs.Common.{length}
use Rattle.dbc_faults.proofs.pattern.+add_firsts.Given as goal

abbrev pub decreases-add_firsts : goal.decreases-add_firsts
decreases-add_firsts l = length l.left.now
