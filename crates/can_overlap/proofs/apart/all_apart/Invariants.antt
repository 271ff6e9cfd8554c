use Rattle.std.proofs.Common.{◌≡◌, length}
use Rattle.can_overlap.specs.inner.Apart.{all_apart}
use Rattle.can_overlap.proofs.apart.all_apart.Given as goal

abbrev pub invariant-loop-left : goal.invariant-loop-left
invariant-loop-left l = all_apart l.left ≡ all_apart l.fields

abbrev pub decreases-loop-left : goal.decreases-loop-left
decreases-loop-left l = length l.left
