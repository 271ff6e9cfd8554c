-- What is cached of `VAL_` entries with many value descriptions.
use Rattle.std.specs.Prelude.{◌≡◌, ◌==◌, ◌&&◌, ℕ, Bool, true, List, Option, Some, None, filter}
use Rattle.std.specs.List.{find}
use Rattle.std.specs.BTreeMap.{BTreeMap, get_by}
use Rattle.dbc_records.specs.Records.{ValueRow}
use Rattle.can_entries.specs.Rows.{has_key}
use Rattle.can_entries.specs.Indexes.{key_order}
use Rattle.can_references.specs.Finding.{is_shared, occurs_in}
use Rattle.can_references.specs.Values.{has_many}
use denote.Ref.{Bor}

-- the entry is of a message ID and a signal's name
abbrev pub is_of : ℕ → List ℕ → ValueRow → Bool
is_of number name row = has_key (λ (row : ValueRow). row.number) (λ (row : ValueRow). row.signal) number name row

-- a CAN identifier among the wanted ones, if not all are wanted
abbrev pub is_wanted : Option (List ℕ) → ℕ → Bool
is_wanted None number = true
is_wanted (Some wanted) number = occurs_in (λ a b. a == b) number wanted

-- a CAN identifier that occurs at least twice among these, and is wanted
abbrev pub is_kept_number : List ℕ → Option (List ℕ) → ℕ → Bool
is_kept_number numbers wanted number = is_shared (λ a b. a == b) number numbers && is_wanted wanted number

-- the entry has many value descriptions, and its CAN identifier passes a test
abbrev pub is_kept : (ℕ → Bool) → ValueRow → Bool
is_kept test row = has_many row && test row.number

-- what is cached for a message ID and a signal's name
abbrev pub kept_at : ℕ → List ℕ → BTreeMap (ℕ × Bor (List ℕ)) ValueRow → Option ValueRow
kept_at number name by_key = get_by (λ key. key_order (number, name) (key.0, key.1.now)) by_key

-- of the entries whose CAN identifiers pass a test, the first of each key is cached
abbrev pub AreKept : (ℕ → Bool) → BTreeMap (ℕ × Bor (List ℕ)) ValueRow → List ValueRow → Type 0
AreKept test by_key rows = (number : ℕ) (name : List ℕ) → kept_at number name by_key ≡ find (is_of number name)
    (filter (is_kept test) rows)
