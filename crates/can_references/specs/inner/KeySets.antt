-- What a set of keys has, of the list of all keys that were added, and what ordered keys determine about a wanted one.
use Rattle.std.specs.Prelude.{◌≡◌, ◌≤◌, ⊤, ℕ, Bool, List, [], ◌∷◌, count_by}
use Rattle.std.specs.List.{list_any}
use Rattle.std.specs.Ordering.{eq_by_cmp, ordering_index}
use Rattle.std.specs.BTreeSet.{BTreeSet, contains}
use Rattle.std.specs.declared.cmp.Ordering.{Ordering}

-- the keys that were added
pub record AreKeys {K : Type 0} (cmp : K → K → Ordering) (once : BTreeSet K) (added : List K) : Type 0 where
  pub has : (key : K) → contains cmp once key ≡ list_any (eq_by_cmp cmp key) added

-- where a key is relative to the wanted one: 0 below it, 1 if they are equal, 2 above it
abbrev pub rank : {K : Type 0} → (K → K → Ordering) → K → K → ℕ
rank cmp asked key = ordering_index (cmp key asked)

-- the ranks of the items do not fall, from n on
abbrev pub RisesFrom : {K : Type 0} → (K → ℕ) → ℕ → List K → Type 0
RisesFrom number n [] = ⊤
RisesFrom number n (key ∷ keys) = (n ≤ number key) × RisesFrom number (number key) keys

-- the keys of `rest` are not below the wanted one, those equal to it come first, and they are all of those in `whole`
pub record HoldsFrom {K : Type 0} (cmp : K → K → Ordering) (same : K → K → Bool) (asked : K) (whole rest : List K) : Type 0 where
  pub rises : RisesFrom (rank cmp asked) 1 rest
  pub all : count_by (same asked) rest ≡ count_by (same asked) whole
