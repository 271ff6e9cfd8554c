-- Hashes of keys, by which most keys differ: those of equal keys are equal.
use Rattle.std.specs.Prelude.{ℕ, ◌+◌, ◌*◌, ◌%◌, ◌^◌, List}
use Rattle.std.specs.List.{fold}
use Rattle.dbc_records.specs.declared.target.Target.{Target}
use Rattle.dbc_records.specs.declared.target.Target.TheVariants as targets
use Rattle.dbc_records.specs.declared.entry_key.EntryKey.{EntryKey}
use Rattle.dbc_records.specs.declared.entry_key.EntryKey.TheVariants as rows

-- the hash after one more byte
unfoldable pub hashed_byte : ℕ → ℕ → ℕ
hashed_byte hash byte = ((hash * 11400714819323198485) % 2 ^ 64 + byte) % 2 ^ 64

-- the hash after more bytes
unfoldable pub hashed_bytes : ℕ → List ℕ → ℕ
hashed_bytes hash bytes = fold hashed_byte hash bytes

abbrev pub target_hash : Target → ℕ
target_hash targets.Whole = 0
target_hash (targets.Node name) = hashed_bytes 0 name
target_hash (targets.Message number) = number
target_hash (targets.Signal number name) = hashed_bytes number name

abbrev pub entry_hash : EntryKey → ℕ
entry_hash (rows.Table name) = hashed_bytes 0 name
entry_hash (rows.Comment target) = target_hash target
entry_hash (rows.Definition object name) = hashed_bytes 0 name
entry_hash (rows.Default name) = hashed_bytes 0 name
entry_hash (rows.Attribute name target) = hashed_bytes (target_hash target) name
entry_hash (rows.Values number signal) = hashed_bytes number signal
entry_hash (rows.Float number signal) = hashed_bytes number signal
entry_hash (rows.Mux number signal) = hashed_bytes number signal
