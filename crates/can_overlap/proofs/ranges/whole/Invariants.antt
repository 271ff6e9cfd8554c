use Rattle.std.proofs.Common.{take}
use Rattle.can_overlap.specs.inner.Ordered.{AreWhole}
use Rattle.can_overlap.proofs.ranges.whole.Given as goal

abbrev pub invariant-loop-range : goal.invariant-loop-range
invariant-loop-range l = AreWhole l.whole.items (take l.range-index l.ranges)
