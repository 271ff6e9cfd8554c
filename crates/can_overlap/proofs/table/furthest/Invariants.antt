use Rattle.std.proofs.Common.{ℕ, ◌≤◌, ◌<◌, get_or}
use Rattle.can_bits.specs.declared.field.Field.{Field}
use Rattle.can_overlap.specs.inner.Occupancy.{reach}
use Rattle.can_overlap.proofs.table.furthest.Given as goal

abbrev pub invariant-loop-field : goal.invariant-loop-field
invariant-loop-field l = (k : ℕ) (d : Field) → k < l.field-index → reach (get_or l.fields k d) ≤ l.most
