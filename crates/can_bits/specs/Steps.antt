-- How raw values are found without examining each bit: a step takes all bits of a signal in one byte at once.
use Rattle.std.specs.Prelude.{◌≡◌, ℕ, ◌+◌, ◌*◌, ◌/◌, ◌%◌, ◌^◌, ◌<◌, ◌≤◌, List, All, slice_index, bit_and, if◌then◌else◌}
use Rattle.std.specs.List.{sum_by}
use Rattle.dbc_records.specs.Records.{is_intel}
use Rattle.can_bits.specs.declared.field.Field.{Field}
use Rattle.can_bits.specs.declared.step.Step.{Step}
use Rattle.can_bits.specs.declared.step.Shift.{Shift}
use Rattle.can_bits.specs.declared.step.Shift.TheVariants.{Up, Down}
use Rattle.can_bits.specs.Bits.{mirrored, bits_from, bits_of, unsigned_raw}

abbrev pub moved : Shift → ℕ → ℕ
moved (Up indexes) n = n * 2 ^ indexes
moved (Down indexes) n = n / 2 ^ indexes

-- what a step adds to the raw value: the bits under its mask, moved
abbrev pub part_of : List ℕ → Step → ℕ
part_of bytes step = moved step.shift (bit_and (slice_index bytes step.byte) step.mask)

-- a word of 64 bits loses none of these bits when they are moved
abbrev pub StaysInWord : Shift → ℕ → Type 0
StaysInWord (Up indexes) n = (indexes < 64) × (n * 2 ^ indexes < 2 ^ 64)
StaysInWord (Down indexes) n = indexes < 64

abbrev pub IsStep : Step → Type 0
IsStep step = StaysInWord step.shift step.mask

-- The bits of a field in its own order, from byte 0 on: how many bits come before that of an index. The byte is this number divided
-- by 8, in both orders.
abbrev pub passed_at : Field → ℕ → ℕ
passed_at field index = if is_intel field.order then field.start + index else mirrored field.start + index

-- the step gives `count` bits of the field, from an index on; they fill the byte, or end the field
pub record IsRun (field : Field) (index : ℕ) (step : Step) (count : ℕ) : Type 0 where
  pub some : 0 < count
  pub within : index + count ≤ field.length
  pub fills : index + count < field.length → passed_at field index % 8 + count ≡ 8
  pub valid : IsStep step
  pub same : (bytes : List ℕ) → part_of bytes step ≡ unsigned_raw bytes (bits_from field index count)

-- whatever the data, the steps give the raw value of the field
pub record AreSteps (field : Field) (steps : List Step) : Type 0 where
  pub length : field.length ≤ 64
  pub valid : All IsStep steps
  pub same : (bytes : List ℕ) → sum_by (part_of bytes) steps ≡ unsigned_raw bytes (bits_of field)
