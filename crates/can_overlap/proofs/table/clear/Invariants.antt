use Rattle.std.proofs.Common.{◌≡◌, ℕ, not, ◌&&◌}
use Rattle.can_overlap.specs.inner.Occupancy.{is_marked}
use Rattle.can_overlap.proofs.Marks.{has_below}
use Rattle.can_overlap.proofs.table.clear.Given as goal

-- the rows at the positions of the first bits are empty
abbrev pub invariant-loop-bit : goal.invariant-loop-bit
invariant-loop-bit l = (position other : ℕ) → is_marked l.rows position other
    ≡ (is_marked l.fn.rows position other && not (has_below l.field l.bit position))
