-- Each position of a field is below its reach.
use Rattle.std.proofs.Common.{ℕ, ◌+◌, ◌<◌, true, false, if◌then◌else◌, arith}
use Rattle.dbc_records.specs.Records.{is_intel}
use Rattle.can_bits.specs.declared.field.Field.{Field}
use Rattle.can_bits.specs.Bits.{mirrored, position_of}
use Rattle.can_overlap.specs.inner.Occupancy.{reach}

pub below_reach : (field : Field) (index : ℕ) → index < field.length → position_of field index < reach field
unfolding reach
below_reach field index within =
    elim (is_intel field.order) as (λ intel. (if intel then field.start + index else mirrored (mirrored field.start + index))
    < field.start + field.length + 14) [
      | true ↦ omega (arith, within)
      | false ↦ omega (arith, within)
    ]
