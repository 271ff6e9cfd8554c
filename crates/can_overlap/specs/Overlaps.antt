-- Signals of a message that share a bit and can be active at once. Source: the DBC file format, "Signal Definitions" (where bits
-- are) and "Extended Multiplexing" (a signal is present for the raw values of its multiplexor that are in its ranges, and only if
-- its multiplexor is present itself).
use Rattle.std.specs.Prelude.{ℕ, ◌+◌, ◌==◌, ◌&&◌, ◌||◌, ◌++◌, nat_le, min, max, Bool, false, not, List, [], ◌∷◌, drop}
use Rattle.std.specs.Prelude.{if◌then◌else◌}
use Rattle.std.specs.List.{range_with_len, list_any, list_all, flat_map}
use Rattle.dbc_records.specs.declared.mux_row.Range.{Range}
use Rattle.can_bits.specs.declared.field.Field.{Field}
use Rattle.can_bits.specs.Bits.{position_of, has_position}
use Rattle.can_entries.specs.Links.{Link}
use Rattle.can_entries.specs.declared.walk.Walk.{Walk}
use Rattle.can_entries.specs.declared.walk.Walk.TheVariants.{Chain, Absent, Loop}
use Rattle.can_overlap.specs.declared.pair.Pair.{Pair}

-- ---- present together

-- whether a number is in both ranges; a range whose first number is over its last holds none
abbrev pub have_common : Range → Range → Bool
have_common a b = nat_le (max a.first b.first) (min a.last b.last)

-- whether some range of the one has a number in common with some range of the other
abbrev pub ranges_meet : List Range → List Range → Bool
ranges_meet a b = list_any (λ x. list_any (λ y. have_common x y) b) a

-- links of one multiplexor (switch) have a raw value of it in common
abbrev pub agree : Link → Link → Bool
agree a b = not (a.switch == b.switch) || ranges_meet a.ranges b.ranges

-- whether a link agrees with each of a chain
abbrev pub agrees_with : List Link → Link → Bool
agrees_with chain link = list_all (λ x. agree x link) chain

-- whether each of the one agrees with each of the other
abbrev pub all_agree : List Link → List Link → Bool
all_agree a b = list_all (λ y. agrees_with a y) b

-- whether both have a chain, and no multiplexor that is in both chains has ranges there without a common raw value
abbrev pub together : Walk → Walk → Bool
together (Chain a) (Chain b) = all_agree a b
together (Chain a) (Absent own) = false
together (Chain a) Loop = false
together (Absent own) b = false
together Loop b = false

-- ---- a shared bit

-- whether some position is in both
abbrev pub share : Field → Field → Bool
share a b = list_any (λ index. has_position b (position_of a index)) (range_with_len 0 a.length)

-- ---- overlaps

-- a signal of a message: its index, its field, its multiplexing chain
pub record Laid : Type 0 where
  pub index : ℕ
  pub field : Field
  pub walk : Walk

-- the signals of a message, from an index on
abbrev pub laid_from : ℕ → List Field → List Walk → List Laid
laid_from index (field ∷ fields) (walk ∷ walks) = record { index = index; field = field; walk = walk } ∷ laid_from (index + 1)
    fields walks
laid_from index (field ∷ fields) [] = []
laid_from index [] walks = []

abbrev pub overlap : Laid → Laid → Bool
overlap a b = share a.field b.field && together a.walk b.walk

abbrev pub pair_where : Bool → ℕ → ℕ → List Pair
pair_where test first second = if test then record { first = first; second = second } ∷ [] else []

-- their indexes, if they overlap
abbrev pub pair_of : Laid → Laid → List Pair
pair_of a b = pair_where (overlap a b) a.index b.index

-- what is found of each item and each later one, by the first and then by the second
abbrev pub for_pairs : {X Y : Type 0} → (X → X → List Y) → List X → List Y
for_pairs f [] = []
for_pairs f (first ∷ later) = flat_map (f first) later ++ for_pairs f later

-- the indexes of the signals that overlap
unfoldable pub overlapping : List Field → List Walk → List Pair
overlapping fields walks = for_pairs pair_of (laid_from 0 fields walks)

-- the pairs of the first of some signals with the later ones
abbrev pub pairs_of_first : List Laid → List Pair
pairs_of_first [] = []
pairs_of_first (first ∷ later) = flat_map (pair_of first) later

-- the pairs of the signal at an index with later ones
unfoldable pub pairs_from : List Field → List Walk → ℕ → List Pair
pairs_from fields walks first = pairs_of_first (laid_from first (drop first fields) (drop first walks))
