use Rattle.std.proofs.Common.{◌≡◌, ℕ, ◌&&◌, ltb, get_or}
use Rattle.can_bits.specs.declared.field.Field.{Field}
use Rattle.can_bits.specs.Bits.{has_position}
use Rattle.can_overlap.specs.inner.Occupancy.{is_marked}
use Rattle.can_overlap.proofs.table.mark_all.Given as goal

-- the fields before this index have their marks
abbrev pub invariant-loop-index : goal.invariant-loop-index
invariant-loop-index l = (position other : ℕ) (d : Field) → is_marked l.rows position other
    ≡ (ltb other l.index && has_position (get_or l.fields other d) position)
