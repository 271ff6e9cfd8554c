-- Where entries of signals begin, by the keys of the entries.
use Rattle.std.specs.Prelude.{◌==◌, ◌&&◌, ℕ, List, map, Option, option_map}
use Rattle.std.specs.List.{find}
use Rattle.std.specs.Str.{bytes_eq}
use Rattle.dbc_records.specs.Databases.{Database}
use Rattle.dbc_reader.specs.declared.start.Start.{Start}
use Rattle.dbc_reader.specs.declared.start.Starts.{Starts}
use Rattle.can_findings.specs.declared.row_starts.RowStart.{RowStart}
use Rattle.can_findings.specs.Beginnings.{at_starts}

-- a message ID and the name of a signal, and where an entry for them begins
pub record KeyStart : Type 0 where
  pub number : ℕ
  pub signal : List ℕ
  pub start : Start

-- without the name's location in memory
abbrev pub key_start : RowStart → KeyStart
key_start row = record { number = row.number; signal = row.signal.now; start = row.start }

-- those of entries that begin there
abbrev pub key_starts : {R : Type 0} → (R → ℕ) → (R → List ℕ) → List R → List Start → List KeyStart
key_starts number_of signal_of rows starts =
    map (λ row. record { number = number_of row.0; signal = signal_of row.0; start = row.1 }) (at_starts rows starts)

-- where the first entry of the key begins
abbrev pub start_of_key : ℕ → List ℕ → List KeyStart → Option Start
start_of_key number name rows = option_map (λ row. row.start) (find (λ row. row.number == number && bytes_eq row.signal name) rows)

-- where the entries of signals begin: of their value descriptions, their float types and their multiplexing
pub record RowStarts : Type 0 where
  pub values : List KeyStart
  pub floats : List KeyStart
  pub muxes : List KeyStart

abbrev pub row_starts_of : Database → Starts → RowStarts
row_starts_of database starts = record {
  values = key_starts (λ row. row.number) (λ row. row.signal) database.values starts.values;
  floats = key_starts (λ row. row.number) (λ row. row.signal) database.floats starts.floats;
  muxes = key_starts (λ row. row.number) (λ row. row.signal) database.muxes starts.muxes;
}
