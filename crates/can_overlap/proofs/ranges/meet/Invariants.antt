use Rattle.std.proofs.Common.{◌≡◌, ◌+◌, ◌-◌, length, drop}
use Rattle.can_overlap.specs.Overlaps.{ranges_meet}
use Rattle.can_overlap.proofs.ranges.meet.Given as goal

-- the ranges from these indexes on meet exactly when all do
abbrev pub invariant-loop-at : goal.invariant-loop-at
invariant-loop-at l = ranges_meet (drop l.at l.first) (drop l.other l.second) ≡ ranges_meet l.first l.second

abbrev pub decreases-loop-at : goal.decreases-loop-at
decreases-loop-at l = (length l.first - l.at) + (length l.second - l.other)
