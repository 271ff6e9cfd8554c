-- Keys that are some of a list of keys, in its order.
use Rattle.std.proofs.Common.{◌≡◌, ℕ, Bool, true, false, not, ◌⊎◌, inl, inr, List, [], ◌∷◌, ◌++◌, refl, sym, ap, ◌∙◌}
use Rattle.std.proofs.Common.{subst, map}
use Rattle.std.specs.Prelude.{⊤}
use Rattle.std.specs.List.{IsDistinct, AllByRecursion, list_any}
use Rattle.std.specs.Str.{bytes_eq}
use Rattle.std.proofs.lemmas.Bool.{and_parts, or_parts}
use Rattle.std.proofs.lemmas.List.{map-append}
use Rattle.dbc_records.specs.Records.{are_distinct}
use Rattle.can_json_texts.specs.Members.{Member, members_of}
use Rattle.can_json_laws.specs.Keys.{keys_in}

abbrev pub Among : List (List ℕ) → List (List ℕ) → Type 0
Among [] all = ⊤
Among (key ∷ keys) [] = ⊥
Among (key ∷ keys) (one ∷ all) = ((key ≡ one) × Among keys all) ⊎ Among (key ∷ keys) all

among_more : (keys all : List (List ℕ)) (one : List ℕ) → Among keys all → Among keys (one ∷ all)
among_more [] all one among = tt
among_more (key ∷ keys) all one among = inr among

pub among_after : (keys front all : List (List ℕ)) → Among keys all → Among keys (front ++ all)
among_after keys [] all among = among
among_after keys (one ∷ front) all among = among_more keys (front ++ all) one (among_after keys front all among)

pub among_before : (keys all back : List (List ℕ)) → Among keys all → Among keys (all ++ back)
among_before [] all back among = tt
among_before (key ∷ keys) [] back among = absurd among
among_before (key ∷ keys) (one ∷ all) back among = elim among [
  | inl same ↦ inl (same.0, among_before keys all back same.1)
  | inr later ↦ inr (among_before (key ∷ keys) all back later)
]

among_append : (first second front back : List (List ℕ)) → Among first front → Among second back
    → Among (first ++ second) (front ++ back)
among_append [] second front back one other = among_after second front back other
among_append (key ∷ first) second [] back one other = absurd one
among_append (key ∷ first) second (a ∷ front) back one other = elim one [
  | inl same ↦ inl (same.0, among_append first second front back same.1 other)
  | inr later ↦ inr (among_append (key ∷ first) second front back later other)
]

-- ---- other keys

none_equal : (key : List ℕ) (all : List (List ℕ)) → list_any (bytes_eq key) all ≡ false
    → AllByRecursion (λ one. bytes_eq key one ≡ false) all
none_equal key [] none = tt
none_equal key (one ∷ all) none =
    let parts = or_parts (bytes_eq key one) (list_any (bytes_eq key) all) none in (parts.0, none_equal key all parts.1)

pub others : (key : List ℕ) (keys all : List (List ℕ)) → Among keys all → AllByRecursion (λ one. bytes_eq key one ≡ false) all
    → AllByRecursion (λ one. bytes_eq key one ≡ false) keys
others key [] all among differ = tt
others key (first ∷ keys) [] among differ = absurd among
others key (first ∷ keys) (one ∷ all) among differ = elim among [
  | inl same ↦ (ap (bytes_eq key) same.0 ∙ differ.0, others key keys all same.1 differ.1)
  | inr later ↦ others key (first ∷ keys) all later differ.1
]

pub none_among : (key : List ℕ) (keys all : List (List ℕ)) → Among keys all → list_any (bytes_eq key) all ≡ false
    → AllByRecursion (λ one. bytes_eq key one ≡ false) keys
none_among key keys all among none = others key keys all among (none_equal key all none)

-- ---- different keys

turned : (b : Bool) → not b ≡ true → b ≡ false
turned true is = sym is
turned false is = refl

pub distinct_names : (names : List (List ℕ)) → are_distinct names ≡ true → IsDistinct bytes_eq names
unfolding IsDistinct
distinct_names [] are = tt
distinct_names (name ∷ names) are =
    let parts = and_parts (not (list_any (bytes_eq name) names)) (are_distinct names) are in
    (none_equal name names (turned (list_any (bytes_eq name) names) parts.0), distinct_names names parts.1)

pub distinct_among : (keys all : List (List ℕ)) → Among keys all → IsDistinct bytes_eq all → IsDistinct bytes_eq keys
unfolding IsDistinct
distinct_among [] all among distinct = tt
distinct_among (key ∷ keys) [] among distinct = absurd among
distinct_among (key ∷ keys) (one ∷ all) among distinct = elim among [
  | inl same ↦ (
    others key keys all same.1
        (subst (λ (k : List ℕ). AllByRecursion (λ (other : List ℕ). bytes_eq k other ≡ false) all) (sym same.0) distinct.0),
    distinct_among keys all same.1 distinct.1,
  )
  | inr later ↦ distinct_among (key ∷ keys) all later distinct.1
]

-- ---- the keys of members

abbrev pub keys_of : List Member → List (List ℕ)
keys_of members = map (λ (one : Member). one.0) members

pub keys_are : (members : List Member) → keys_in (members_of members) ≡ keys_of members
keys_are [] = refl
keys_are (one ∷ members) = ap (λ (keys : List (List ℕ)). one.0 ∷ keys) (keys_are members)

-- the keys of members and of more
pub both_among : (first second : List Member) (front back : List (List ℕ)) → Among (keys_of first) front
    → Among (keys_of second) back → Among (keys_of (first ++ second)) (front ++ back)
both_among first second front back one other =
    subst (λ (keys : List (List ℕ)). Among keys (front ++ back)) (sym (map-append (λ (one : Member). one.0) first second))
    (among_append (keys_of first) (keys_of second) front back one other)
