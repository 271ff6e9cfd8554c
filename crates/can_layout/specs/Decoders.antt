-- What turns the bits of a signal into its values.
-- Source: the DBC file format, "Signal Definitions" and "Signal Value Descriptions".
use Rattle.std.specs.Prelude.{◌≡◌, ℕ, ℤ, pos, Bool, List, [], ◌∷◌, ◌++◌, length, map, codes, Option, Some, None, slice_get}
use Rattle.std.specs.List.{find, range_with_len}
use Rattle.std.specs.Option.{option_map}
use Rattle.std.specs.Ordering.{int_eq, int_cmp}
use Rattle.std.specs.BTreeMap.{BTreeMap, get}
use Rattle.dbc_text_buffer.specs.Shown.{shown}
use Rattle.dbc_values.specs.Scales.{Scale}
use Rattle.dbc_records.specs.Records.{Entry}
use Rattle.can_bits.specs.Bits.{Bit}

-- how the values of a signal are read
pub record Decoder : Type 0 where
  pub bits : List Bit
  pub signed : Bool
  pub scale : Scale
  pub unit : List ℕ
  pub entries : List Entry

-- the scale is for as many bits as there are
pub record IsDecoder (decoder : Decoder) : Type 0 where
  pub fits : decoder.scale.length ≡ length decoder.bits

-- ---- the text of values

-- a blank and the unit, if there is one
abbrev pub unit_text : List ℕ → List ℕ
unit_text [] = []
unit_text (b ∷ unit) = codes " " ++ shown (b ∷ unit)

-- the value descriptions, none if there is no entry of them
abbrev pub entries_in : Option (List Entry) → List Entry
entries_in None = []
entries_in (Some entries) = entries

-- the first entry of a raw value
abbrev pub first_entry : ℤ → List Entry → Option Entry
first_entry raw entries = find (λ entry. int_eq entry.number raw) entries

-- the index is that of the first entry of a raw value in a prefix of entries, or there is none
abbrev pub IsIndexOf : List Entry → List Entry → ℤ → Option ℕ → Type 0
IsIndexOf entries front raw None = first_entry raw front ≡ None
IsIndexOf entries front raw (Some index) = (entry : Entry) × (slice_get entries index ≡ Some entry)
    × (first_entry raw front ≡ Some entry)

-- each raw value has the index of its first entry
abbrev pub IsEntryIndex : BTreeMap ℤ ℕ → List Entry → Type 0
IsEntryIndex indexes entries = (raw : ℤ) → IsIndexOf entries entries raw (get int_cmp indexes raw)

-- the name of a raw value
abbrev pub name_of : ℤ → List Entry → Option (List ℕ)
name_of raw entries = option_map (λ entry. shown entry.text) (first_entry raw entries)

-- the names of the raw values from 0 on, or that they have none
abbrev pub AreNames : List Entry → List (Option (List ℕ)) → Type 0
AreNames entries names = names ≡ map (λ raw. name_of (pos raw) entries) (range_with_len 0 (length names))
