-- The text of a signal's value. Source: cantools, the single-line form of `decode` (a value and its unit, or the text of a value
-- description); the DBC file format, "Signal Definitions" (physical value) and "Signal Value Descriptions". That values are written
-- exactly is the profile of candesk.
use Rattle.std.specs.Prelude.{ℕ, ℤ, zero, suc, ◌+ℤ◌, ◌*ℤ◌, ◌/◌, ◌%◌, ◌==◌, int_lt, pos, unsigned_abs, List, [], ◌++◌, Option, Some}
use Rattle.std.specs.Prelude.{None, codes, decimal, if◌then◌else◌}
use Rattle.dbc_values.specs.Scales.{Scale}
use Rattle.dbc_records.specs.Layout.{point_before_last, filled}
use Rattle.dbc_records.specs.Records.{Entry}
use Rattle.can_bits.specs.Bits.{raw_value}
use Rattle.can_layout.specs.Diagrams.{cause_word}
use Rattle.can_layout.specs.declared.row.Reading.{Reading}
use Rattle.can_layout.specs.declared.row.Reading.TheVariants.{Refused, Read}
use Rattle.can_layout.specs.Decoders.{Decoder, unit_text, first_entry}
use Rattle.dbc_text_buffer.specs.Shown.{shown}

-- ---- exact decimals

-- a whole number with the point that many places from the right
pub record Fixed : Type 0 where
  pub digits : ℕ
  pub places : ℕ

-- the same number with the fewest decimal places: no zero is last after the point
abbrev pub fewest_places : ℕ → ℕ → Fixed
fewest_places digits zero = record { digits = digits; places = 0 }
fewest_places digits (suc places) = if digits % 10 == 0 then fewest_places (digits / 10) places else record {
  digits = digits;
  places = suc places;
}

-- at least one digit is before the point
unfoldable pub fixed_text : Fixed → List ℕ
fixed_text fixed = if fixed.places == 0 then decimal fixed.digits else point_before_last fixed.places
    (filled fixed.places (decimal fixed.digits))

abbrev pub sign_of : ℤ → List ℕ
sign_of value = if int_lt value (pos 0) then codes "-" else []

-- the one decimal of `value` over ten to the number of decimal places
unfoldable pub scaled_text : ℤ → ℕ → List ℕ
scaled_text value places = sign_of value ++ fixed_text (fewest_places (unsigned_abs value) places)

-- ---- values

-- factor times raw plus offset
abbrev pub scaled : Scale → ℤ → ℤ
scaled scale raw = (scale.factor *ℤ raw) +ℤ scale.offset

abbrev pub number_text : Decoder → ℤ → List ℕ
number_text decoder raw = scaled_text (scaled decoder.scale raw) decoder.scale.places ++ unit_text decoder.unit

-- a raw value that is named is shown by its name, without a unit
abbrev pub named_or_number : Decoder → ℤ → Option Entry → List ℕ
named_or_number decoder raw (Some entry) = shown entry.text
named_or_number decoder raw None = number_text decoder raw

abbrev pub decoder_text : Decoder → ℤ → List ℕ
decoder_text decoder raw = named_or_number decoder raw (first_entry raw decoder.entries)

-- the value in data, or why there is none
abbrev pub reading_text : List ℕ → Reading → List ℕ
reading_text bytes (Refused cause) = codes "?" ++ cause_word cause
reading_text bytes (Read decoder) = decoder_text decoder (raw_value bytes decoder.signed decoder.bits)
