-- One signal more, of a new name.
use Rattle.std.proofs.Common.{◌≡◌, ℕ, ◌<◌, ◌||◌, ◌&&◌, not, Bool, true, false, IsTrue, List, [], ◌∷◌, ◌++◌, length, refl, arith}
use Rattle.std.proofs.lemmas.Grind.{common_steps}
use Rattle.std.proofs.lemmas.List.Folds.{list_any-append}
use Rattle.std.proofs.lemmas.List.{map_push}
use Rattle.std.specs.Prelude.{nat_le}
use Rattle.std.specs.List.{list_any}
use Rattle.std.specs.Str.{bytes_eq}
use Rattle.dbc_records.specs.Records.{Signal, names_of, are_distinct, signals_fit}

pub same_either_way : (a b : List ℕ) → bytes_eq a b ≡ bytes_eq b a
same_either_way [] [] = refl
same_either_way [] (y ∷ ys) = refl
same_either_way (x ∷ xs) [] = refl
same_either_way (x ∷ xs) (y ∷ ys) = grind (arith, common_steps, same_either_way xs ys)

distinct_one : (x name : List ℕ) (xs : List (List ℕ)) (distinct : Bool) → (bytes_eq name x || list_any (bytes_eq name) xs) ≡ false
    → (not (list_any (bytes_eq x) xs) && distinct) ≡ true
    → (distinct ≡ true) × (not (list_any (bytes_eq x) (xs ++ name ∷ [])) ≡ true) × (list_any (bytes_eq name) xs ≡ false)
distinct_one x name xs distinct h k = grind (
  arith,
  common_steps,
  list_any-append (bytes_eq x) xs (name ∷ []),
  same_either_way x name,
)

pub distinct_more : (names : List (List ℕ)) (name : List ℕ) → are_distinct names ≡ true → list_any (bytes_eq name) names ≡ false
    → are_distinct (names ++ name ∷ []) ≡ true
distinct_more [] name h k = refl
distinct_more (x ∷ xs) name h k = let p = distinct_one x name xs (are_distinct xs) k h in
    rw (p.1, distinct_more xs name p.0 p.2) refl

pub fits : (b c : Bool) → (b && c) ≡ true → (c ≡ true)
fits true c e = e
fits false c e = absurd cc

pub both : (b c : Bool) → b ≡ true → c ≡ true → (b && c) ≡ true
both b c e f = rw (e, f) refl

pub signals_fit_more : (signals before new : List Signal) (signal : Signal) → IsTrue (signals_fit signals) → before ≡ signals
    → length before < 999 → list_any (bytes_eq signal.name) (names_of before) ≡ false → new ≡ signals ++ signal ∷ []
    → IsTrue (signals_fit new)
unfolding signals_fit
signals_fit_more signals before new signal h same short fresh is =
    let distinct : are_distinct (names_of signals) ≡ true = fits (nat_le (length signals) 999) (are_distinct (names_of signals))
    h in
    let names : names_of new ≡ names_of signals ++ signal.name ∷ [] = rw is (map_push _ signals signal) in
    let first : length signals < 999 = rw (← same) short in
    let other : list_any (bytes_eq signal.name) (names_of signals) ≡ false = rw (← same) fresh in
    let count : nat_le (length new) 999 ≡ true = rw is (grind (arith, common_steps)) in
    both (nat_le (length new) 999) (are_distinct (names_of new)) count
    (rw names (distinct_more (names_of signals) signal.name distinct other))
