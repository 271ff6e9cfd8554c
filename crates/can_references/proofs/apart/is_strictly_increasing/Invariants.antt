use Rattle.std.proofs.Common.{◌+◌, ◌-◌, ◌<◌, ℕ, length, slice_index}
use Rattle.can_references.proofs.apart.is_strictly_increasing.Given as goal

-- the numbers so far rise
abbrev pub invariant-loop-index : goal.invariant-loop-index
invariant-loop-index l = (0 < l.index) × ((k : ℕ) → k + 1 < l.index → slice_index l.numbers k < slice_index l.numbers (k + 1))

abbrev pub decreases-loop-index : goal.decreases-loop-index
decreases-loop-index l = length l.numbers - l.index
