-- A map from bit positions to the indexes of the signals that have a bit there.
use Rattle.std.specs.Prelude.{◌≡◌, ℕ, ◌+◌, ◌≤◌, ◌&&◌, nat_lt, Bool, false, List, [], length, slice_index_or, All}
use Rattle.std.specs.List.{flat_map, enumerate_from}
use Rattle.can_bits.specs.declared.field.Field.{Field}
use Rattle.can_bits.specs.Bits.{has_position}
use Rattle.can_entries.specs.Links.{Link}
use Rattle.can_entries.specs.declared.walk.Walk.{Walk}
use Rattle.can_entries.specs.declared.walk.Walk.TheVariants.{Chain}
use Rattle.can_overlap.specs.declared.pair.Pair.{Pair}
use Rattle.can_overlap.specs.declared.indexes.IndexSet.{IndexSet}
use Rattle.can_overlap.specs.Overlaps.{Laid, together, pair_where}
use Rattle.can_overlap.specs.inner.IndexSet.{has}

-- whether the row of a position has an index
abbrev pub is_marked : List IndexSet → ℕ → ℕ → Bool
is_marked rows position index = has (slice_index_or rows position (record { words = [] })).words index

-- no row has an index
abbrev pub IsClear : List IndexSet → Type 0
IsClear rows = (position index : ℕ) → is_marked rows position index ≡ false

-- the row of each position has the indexes of the fields that have it
abbrev pub IsOccupancy : List Field → List IndexSet → Type 0
IsOccupancy fields rows =
    (position index : ℕ) (d : Field) → is_marked rows position index
    ≡ (nat_lt index (length fields) && has_position (slice_index_or fields index d) position)

-- more than each position of a field
unfoldable pub reach : Field → ℕ
reach field = field.start + field.length + 14

-- the pair of a signal that has a chain with another one, if a set has that one's index
abbrev pub shared_pair : ℕ → List Link → List ℕ → ℕ × Walk → List Pair
shared_pair first chain words later = pair_where (has words later.0 && together (Chain chain) later.1) first later.0

-- its pairs with those from an index on, which have these walks
abbrev pub shared_pairs : ℕ → List Link → List ℕ → ℕ → List Walk → List Pair
shared_pairs first chain words from walks = flat_map (shared_pair first chain words) (enumerate_from from walks)

-- the signal at an index
abbrev pub laid_at : List Field → List Walk → ℕ → Field → Walk → Laid
laid_at fields walks index field walk = record {
  index = index;
  field = slice_index_or fields index field;
  walk = slice_index_or walks index walk;
}

-- the signals of a message, in a table
pub record Marked : Type 0 where
  pub fields : List Field
  pub walks : List Walk

-- the rows have the indexes of the signals, as many as a message has, at their positions
pub record AreMarked (rows : List IndexSet) (fields : List Field) (walks : List Walk) : Type 0 where
  pub lengths : length walks ≡ length fields
  pub few : length fields ≤ 999
  pub space : All (λ field. reach field ≤ length rows) fields
  pub marked : IsOccupancy fields rows
