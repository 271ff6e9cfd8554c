use Rattle.std.proofs.Common.{◌≡◌, ℕ}
use Rattle.std.specs.List.{list_any, range_with_len}
use Rattle.can_bits.specs.Bits.{position_of}
use Rattle.can_overlap.specs.inner.Occupancy.{is_marked}
use Rattle.can_overlap.specs.inner.IndexSet.{has}
use Rattle.can_overlap.proofs.table.shared_by.Given as goal

-- the set has the indexes at the positions of the first bits
abbrev pub invariant-loop-bit : goal.invariant-loop-bit
invariant-loop-bit l = (index : ℕ) → has l.shared.words index ≡ list_any (λ bit. is_marked l.rows (position_of l.field bit) index)
    (range_with_len 0 l.bit)
