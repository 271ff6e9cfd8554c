-- Which entries plans share.
use Rattle.std.specs.Prelude.{◌≡◌, ◌==◌, ℕ, Bool, List, [], map, filter}
use Rattle.std.specs.Option.{is_some}
use Rattle.dbc_records.specs.Records.{ValueRow}
use Rattle.can_entries.specs.Rows.{first_named}
use Rattle.can_layout.specs.declared.shared_row.SharedNumber.{SharedNumber}
use Rattle.can_layout.specs.declared.shared_row.NamedRow.{NamedRow}

-- the entry, without what is shared of it
abbrev pub row_of : NamedRow → ValueRow
row_of named = named.row.now

-- the CAN identifier is one of those whose entries are shared
abbrev pub is_shared : List SharedNumber → ℕ → Bool
is_shared numbers number = is_some (first_named (λ (one : SharedNumber). []) []
    (filter (λ (one : SharedNumber). one.number == number) numbers))

-- these are all entries of the CAN identifiers, in order
abbrev pub AreShared : List ValueRow → List SharedNumber → List NamedRow → Type 0
AreShared rows numbers named = map row_of named ≡ filter (λ (row : ValueRow). is_shared numbers row.number) rows
