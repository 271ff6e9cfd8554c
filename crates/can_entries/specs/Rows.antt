-- The entries of a database that are about a signal. An entry belongs to the message ID and the signal name with which it is
-- written, whether or not such a message or signal is present; of several entries with one key the first counts. Source: the DBC
-- file format, "Signal Value Descriptions (Value Encodings)", "Signal Extended Value Type Definitions" and "Extended Multiplexing".
-- It is silent on entries that are written twice; that the first counts is the profile of candesk.
use Rattle.std.specs.Prelude.{◌==◌, ◌&&◌, not, ℕ, Bool, false, List, [], Option, Some, None, filter}
use Rattle.std.specs.List.{find}
use Rattle.std.specs.Str.{bytes_eq}
use Rattle.dbc_records.specs.Records.{Entry, ValueRow, FloatRow, MuxRow}
use Rattle.dbc_records.specs.Databases.{Database}

-- the entries of one message ID
pub record SignalRows : Type 0 where
  pub values : List ValueRow
  pub floats : List FloatRow
  pub muxes : List MuxRow

-- the entries of a CAN identifier in a database, in its order
unfoldable pub rows_of : ℕ → Database → SignalRows
rows_of number database = record {
  values = filter (λ row. row.number == number) database.values;
  floats = filter (λ row. row.number == number) database.floats;
  muxes = filter (λ row. row.number == number) database.muxes;
}

-- the first entry of a signal
abbrev pub first_named : {R : Type 0} → (R → List ℕ) → List ℕ → List R → Option R
first_named signal_of name rows = find (λ row. bytes_eq (signal_of row) name) rows

-- its value descriptions
abbrev pub first_values : List ℕ → SignalRows → Option ValueRow
first_values name rows = first_named (λ row. row.signal) name rows.values

-- its float type
abbrev pub first_float : List ℕ → SignalRows → Option FloatRow
first_float name rows = first_named (λ row. row.signal) name rows.floats

-- its multiplexor (switch), and the raw values of it for which the signal is present
abbrev pub first_mux : List ℕ → SignalRows → Option MuxRow
first_mux name rows = first_named (λ row. row.signal) name rows.muxes

-- an entry by which the values are floats: 0 is the type of whole numbers
abbrev pub is_float_row : Option FloatRow → Bool
is_float_row None = false
is_float_row (Some row) = not (row.kind == 0)

-- the value descriptions of an entry, none if there is no entry
abbrev pub entries_of : Option ValueRow → List Entry
entries_of None = []
entries_of (Some row) = row.entries

-- ---- by CAN identifier and name at once

abbrev pub has_key : {R : Type 0} → (R → ℕ) → (R → List ℕ) → ℕ → List ℕ → R → Bool
has_key number_of signal_of number name row = number_of row == number && bytes_eq (signal_of row) name

-- the first entry of a key in a whole list
abbrev pub first_row : {R : Type 0} → (R → ℕ) → (R → List ℕ) → ℕ → List ℕ → List R → Option R
first_row number_of signal_of number name rows = find (has_key number_of signal_of number name) rows
