-- What an index of entries is: entries in the order of their keys, of which the first of each key is found.
use Rattle.std.specs.Prelude.{◌≡◌, ℕ, List, Option, All, map}
use Rattle.std.specs.Option.{option_map}
use Rattle.std.specs.List.{find}
use Rattle.std.specs.List.Sorted.{IsSortedBy}
use Rattle.std.specs.declared.cmp.Ordering.{Ordering}
use Rattle.std.specs.Ordering.{nat_cmp, ordering_then, is_lt}
use Rattle.std.specs.Cmp.Lexicographic.{slice_cmp}
use Rattle.std.specs.BTreeMap.{BTreeMap, get}
use Rattle.dbc_records.specs.Records.{ValueRow, FloatRow, MuxRow}
use Rattle.dbc_records.specs.Attributes.{AttrDef, AttrRow, AttrDefault}
use Rattle.dbc_records.specs.Databases.{Database}
use Rattle.can_entries.specs.declared.index.Entry.{Entry}
use Rattle.can_entries.specs.Rows.{first_row}
use Rattle.can_entries.specs.inner.Hashes.{key_hash}
use Rattle.can_entries.specs.Groups.{gives_format, format_default, format_definition}
use denote.Ref.{Bor}

-- a key with its number, as an entry has it
abbrev pub key_of : {R : Type 0} → (R → List ℕ) → Entry R → ℕ × List ℕ
key_of signal_of entry = (entry.hash, signal_of entry.row.now)

-- by the numbers, and by the names if those are equal
abbrev pub key_order : ℕ × List ℕ → ℕ × List ℕ → Ordering
key_order first second = ordering_then (nat_cmp first.0 second.0) (slice_cmp nat_cmp first.1 second.1)

-- the number of an entry is that of its entry's key
abbrev pub has_own_hash : {R : Type 0} → (R → ℕ) → (R → List ℕ) → Entry R → Type 0
has_own_hash number_of signal_of entry = entry.hash ≡ key_hash (number_of entry.row.now) (signal_of entry.row.now)

abbrev pub AreInOrder : {R : Type 0} → (R → List ℕ) → List (Entry R) → Type 0
AreInOrder signal_of entries =
    IsSortedBy (λ first second. is_lt (key_order (key_of signal_of first) (key_of signal_of second))) entries

-- entries in the order of their keys, of which the first of each key is the first entry of the key
pub record IsIndex {R : Type 0} (number_of : R → ℕ) (signal_of : R → List ℕ) (entries : List (Entry R)) (rows : List R)
    : Type 0 where
  pub own_hashes : All (has_own_hash number_of signal_of) entries
  pub in_order : AreInOrder signal_of entries
  pub first_rows : (number : ℕ) (name : List ℕ) → first_row number_of signal_of number name (map (λ entry. entry.row.now) entries)
      ≡ first_row number_of signal_of number name rows

-- what attribute entries have at a message ID
abbrev pub format_at : ℕ → BTreeMap ℕ (Bor AttrRow) → Option AttrRow
format_at number by_number = option_map (λ row. row.now) (get nat_cmp by_number number)

abbrev pub IsFormatIndex : BTreeMap ℕ (Bor AttrRow) → List AttrRow → Type 0
IsFormatIndex by_number rows = (number : ℕ) → format_at number by_number ≡ find (gives_format number) rows

-- the entries of each kind are those of a database, and so are the first default and the first definition of the frame format
pub record AreOf (database : Database) (values : List ValueRow) (floats : List FloatRow) (muxes : List MuxRow)
    (formats : List AttrRow) (default : Option (Bor AttrDefault)) (definition : Option (Bor AttrDef)) : Type 0 where
  pub of_values : values ≡ database.values
  pub of_floats : floats ≡ database.floats
  pub of_muxes : muxes ≡ database.muxes
  pub of_attributes : formats ≡ database.attributes
  pub of_defaults : option_map (λ row. row.now) default ≡ format_default database
  pub of_definitions : option_map (λ definition. definition.now) definition ≡ format_definition database
