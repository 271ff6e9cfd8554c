-- Fields that follow one another, as determined by their beginnings and ends.
use Rattle.std.specs.Prelude.{ℕ, ◌&&◌, ◌||◌, nat_le, Bool, true, List, [], ◌∷◌, length}
use Rattle.std.specs.Bool.{beq}
use Rattle.std.specs.List.{list_all}
use Rattle.dbc_records.specs.Records.{is_intel}
use Rattle.can_bits.specs.declared.field.Field.{Field}
use Rattle.can_bits.specs.Steps.{passed_at}

-- in the byte order of both, no bit of the one comes after the first of the other
abbrev pub ends_before : Field → Field → Bool
ends_before a b = nat_le (passed_at a a.length) (passed_at b 0)

-- two fields of the same byte order of which one ends before the other begins
abbrev pub apart : Field → Field → Bool
apart a b = beq (is_intel a.order) (is_intel b.order) && (ends_before a b || ends_before b a)

-- each two of some fields
abbrev pub all_apart : List Field → Bool
all_apart [] = true
all_apart (field ∷ later) = list_all (apart field) later && all_apart later

-- the most fields that are compared pairwise
abbrev pub most_compared : ℕ
most_compared = 64

abbrev pub seen_apart : List Field → Bool
seen_apart fields = nat_le (length fields) most_compared && all_apart fields
