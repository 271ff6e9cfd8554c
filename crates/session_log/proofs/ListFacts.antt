-- What finding and filtering see of a changed list, if the test skips what was changed.
use Rattle.std.proofs.Common.{◌≡◌, ℕ, zero, suc, Bool, true, false, List, [], ◌∷◌, take, drop, length, refl, sym, ap, ◌∙◌, inl, inr}
use Rattle.std.specs.Prelude.{not, Some, find, filter, map, insert, remove, slice_get, slice_set, position, nat_lt}
use Rattle.std.specs.List.{position_or_len}
use Rattle.std.specs.Option.{option_and_then}
use Rattle.std.proofs.lemmas.Bool.{cases_Bool, both_ways, ltb-false}
use Rattle.std.proofs.lemmas.List.{take-append-drop}
use Rattle.std.proofs.lemmas.List.Elements.{filter-append}
use Rattle.std.proofs.lemmas.List.Folds.{find_at}
use Rattle.std.proofs.lemmas.Option.{slice_get_past}
use Rattle.dbc_edits.specs.Rows.{without, with_item}

-- what passes the first test passes the second
abbrev pub Implies : {X : Type 0} → (X → Bool) → (X → Bool) → Type 0
Implies {X} p q = (x : X) → p x ≡ true → q x ≡ true

-- nothing passes both
abbrev pub Excludes : {X : Type 0} → (X → Bool) → (X → Bool) → Type 0
Excludes {X} q p = (x : X) → q x ≡ true → p x ≡ false

fails_too : {X : Type 0} (p q : X → Bool) (x : X) → Implies p q → q x ≡ false → p x ≡ false
fails_too p q x h e = elim (cases_Bool (p x)) [ inl t ↦ absurd (both_ways (q x) e (h x t)) | inr f ↦ f ]

-- ---- finding

pub find-filter : {X : Type 0} (p q : X → Bool) → Implies p q → (xs : List X) → find p (filter q xs) ≡ find p xs
find-filter p q h [] = refl
find-filter p q h (x ∷ xs) =
    elim (cases_Bool (q x)) [
      | inl t ↦ rw t (rw (find-filter p q h xs) refl)
      | inr f ↦ rw (f, fails_too p q x h f) (find-filter p q h xs)
    ]

-- two lists in which the same items pass a weaker test
pub find-by_filter : {X : Type 0} (p q : X → Bool) → Implies p q → (xs ys : List X) → filter q ys ≡ filter q xs
    → find p ys ≡ find p xs
find-by_filter p q h xs ys same = sym (find-filter p q h ys) ∙ ap (find p) same ∙ find-filter p q h xs

pub find-same : {X : Type 0} (p q : X → Bool) → ((x : X) → p x ≡ q x) → (xs : List X) → find p xs ≡ find q xs
find-same p q h [] = refl
find-same p q h (x ∷ xs) = rw (h x, find-same p q h xs) refl

pub find-passes : {X : Type 0} (p : X → Bool) (xs : List X) (x : X) → find p xs ≡ Some x → p x ≡ true
find-passes p [] x e = absurd (cc)
find-passes p (y ∷ ys) x e =
    elim (cases_Bool (p y)) [
      | inl t ↦ (let f = rw t at e in let same : y ≡ x = cc in rw (← same) t)
      | inr f ↦ find-passes p ys x (rw f at e)
    ]

-- what is at the first index
pub find-position : {X : Type 0} (p : X → Bool) (xs : List X) → option_and_then (slice_get xs) (position p xs) ≡ find p xs
find-position p xs =
    elim (cases_Bool (nat_lt (position_or_len p xs) (length xs))) [
      | inl t ↦ rw t (sym (find_at p xs))
      | inr f ↦ rw f (sym (find_at p xs ∙ slice_get_past xs (position_or_len p xs) (ltb-false _ _ f)))
    ]

-- ---- filtering

filter-filter : {X : Type 0} (p q : X → Bool) → Implies p q → (xs : List X) → filter p (filter q xs) ≡ filter p xs
filter-filter p q h [] = refl
filter-filter p q h (x ∷ xs) =
    elim (cases_Bool (q x)) [
      | inl t ↦ rw t (rw (filter-filter p q h xs) refl)
      | inr f ↦ rw (f, fails_too p q x h f) (filter-filter p q h xs)
    ]

pub filter-without : {X : Type 0} (p q : X → Bool) → Excludes q p → (xs : List X) → filter p (without q xs) ≡ filter p xs
filter-without p q h xs =
    filter-filter p (λ x. not (q x)) (λ x t. elim (cases_Bool (q x)) [
      | inl e ↦ absurd (both_ways (p x) (h x e) t)
      | inr e ↦ rw e
          refl
    ]) xs

pub filter-with_item : {X : Type 0} (p q : X → Bool) (item : X) → Excludes q p → p item ≡ false → (xs : List X)
    → filter p (with_item q item xs) ≡ filter p xs
filter-with_item p q item h e [] = rw e refl
filter-with_item p q item h e (x ∷ xs) =
    elim (cases_Bool (q x)) [
      | inl t ↦ rw (t, e, h x t) (filter-without p q h xs)
      | inr f ↦ rw f (rw (filter-with_item p q item h e xs) refl)
    ]

pub filter-insert : {X : Type 0} (p : X → Bool) (xs : List X) (i : ℕ) (y : X) → p y ≡ false → filter p (insert xs i y) ≡ filter p xs
filter-insert p xs i y e =
    filter-append p (take i xs) (y ∷ drop i xs) ∙ rw e (sym (filter-append p (take i xs) (drop i xs))
    ∙ ap (filter p) (take-append-drop i xs))

pub filter-remove : {X : Type 0} (p : X → Bool) (xs : List X) (i : ℕ) (y : X) → slice_get xs i ≡ Some y → p y ≡ false
    → filter p (remove xs i) ≡ filter p xs
filter-remove p [] i y at e = absurd (cc)
filter-remove p (x ∷ xs) zero y at e = let same : x ≡ y = cc in rw (same, e) refl
filter-remove p (x ∷ xs) (suc i) y at e = rw (filter-remove p xs i y at e) refl

pub filter-set : {X : Type 0} (p : X → Bool) (xs : List X) (i : ℕ) (y z : X) → slice_get xs i ≡ Some y → p y ≡ false → p z ≡ false
    → filter p (slice_set xs i z) ≡ filter p xs
filter-set p [] i y z at e f = absurd (cc)
filter-set p (x ∷ xs) zero y z at e f = let same : x ≡ y = cc in rw (same, e, f) refl
filter-set p (x ∷ xs) (suc i) y z at e f = rw (filter-set p xs i y z at e f) refl

-- a change that leaves what passes as it is, and lets nothing else pass
pub filter-map : {X : Type 0} (p : X → Bool) (f : X → X) → ((x : X) → p x ≡ true → f x ≡ x)
    → ((x : X) → p x ≡ false → p (f x) ≡ false) → (xs : List X) → filter p (map f xs) ≡ filter p xs
filter-map p f keeps stays [] = refl
filter-map p f keeps stays (x ∷ xs) =
    elim (cases_Bool (p x)) [
      | inl t ↦ rw (keeps x t, t, filter-map p f keeps stays xs) refl
      | inr e ↦ rw (e, stays x e) (filter-map p f keeps stays xs)
    ]
