use Rattle.std.proofs.Common.{◌≡◌, ℕ, ◌||◌, ◌&&◌, eqb}
use Rattle.can_overlap.specs.inner.Occupancy.{is_marked}
use Rattle.can_overlap.proofs.Marks.{has_below}
use Rattle.can_overlap.proofs.table.mark.Given as goal

-- the positions of the first bits are marked
abbrev pub invariant-loop-bit : goal.invariant-loop-bit
invariant-loop-bit l = (position other : ℕ) → is_marked l.rows position other
    ≡ (is_marked l.fn.rows position other || (has_below l.field l.bit position && eqb other l.index))
