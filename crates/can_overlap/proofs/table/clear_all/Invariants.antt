use Rattle.std.proofs.Common.{◌≡◌, ℕ, not, ◌&&◌, take}
use Rattle.std.specs.List.{list_any}
use Rattle.can_bits.specs.Bits.{has_position}
use Rattle.can_overlap.specs.inner.Occupancy.{is_marked}
use Rattle.can_overlap.proofs.table.clear_all.Given as goal

-- the rows of the first fields are empty
abbrev pub invariant-loop-field : goal.invariant-loop-field
invariant-loop-field l = (position other : ℕ) → is_marked l.rows position other
    ≡ (is_marked l.fn.rows position other && not (list_any (λ field. has_position field position) (take l.field-index l.fields)))
