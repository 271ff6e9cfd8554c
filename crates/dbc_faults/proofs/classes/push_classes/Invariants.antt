use Rattle.std.proofs.Common.{length}
use Rattle.dbc_faults.proofs.classes.push_classes.Given as goal

abbrev pub decreases-classes : goal.decreases-classes
decreases-classes l = length l.left
