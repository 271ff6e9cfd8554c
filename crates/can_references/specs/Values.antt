-- Value descriptions whose raw value occurred earlier among them, and `VAL_` entries with many value descriptions. Source: the DBC
-- file format, "Signal Value Descriptions (Value Encodings)". It gives each value one description; which of them are reported is
-- the profile of candesk.
use Rattle.std.specs.Prelude.{ℤ, nat_lt, Bool, not, is_some, List, [], ◌∷◌, map, length, if◌then◌else◌}
use Rattle.std.specs.Ordering.{int_eq}
use Rattle.dbc_records.specs.Records.{Entry, ValueRow}
use Rattle.dbc_records.specs.Orders.{entry_order}
use Rattle.can_references.specs.Finding.{occurs_in, each_after}

-- a raw value that occurred earlier
abbrev pub number_repeated : List ℤ → ℤ → List ℤ
number_repeated before number = if occurs_in int_eq number before then number ∷ [] else []

-- the raw values of value descriptions that occurred earlier among them, in order
abbrev pub numbers_repeated : List Entry → List ℤ
numbers_repeated entries = each_after number_repeated [] (map (λ entry. entry.number) entries)

-- whether one may repeat a raw value: they neither rise nor fall
abbrev pub may_repeat : List Entry → Bool
may_repeat entries = not (is_some (entry_order entries))

-- an entry with so many value descriptions that they aren't visited for each message
abbrev pub has_many : ValueRow → Bool
has_many row = nat_lt 64 (length row.entries)
