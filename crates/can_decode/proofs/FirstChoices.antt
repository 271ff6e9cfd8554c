-- The first choice with a key, in entries in the order of their keys.
use Rattle.std.proofs.Common.{◌≡◌, ◌+◌, ◌<◌, ◌≤◌, ◌==◌, ℕ, zero, suc, Bool, true, false, cond, not, ◌&&◌}
use Rattle.std.proofs.Common.{List, [], ◌∷◌, ◌++◌, drop, length, get_or, Option, Some, None, refl, sym, ap, ◌∙◌, arith}
use Rattle.std.proofs.Common.{if◌then◌else◌}
use Rattle.std.proofs.Common.{get_or-drop, length-drop, ltb, ltb-true, ltb-false}
use Rattle.std.specs.List.{AllWithin}
use Rattle.std.specs.List.Sorted.{IsNonDecreasingBy, IsStableByKey}
use Rattle.std.specs.Option.{option_or}
use Rattle.std.specs.Ordering.{is_lt, nat_cmp}
use Rattle.std.proofs.lemmas.Grind.{common_steps}
use Rattle.std.proofs.lemmas.List.Sorted.{IsNonDecreasingBy-drop}
use Rattle.std.proofs.lemmas.Map.Entries.{lookup-filter-keys}
use Rattle.can_decode.specs.inner.FirstChoices.{key_of, first_choice, RisesFrom}
use Rattle.can_decode.specs.declared.message_search.Choice.{Choice}

-- ---- one more entry

pub first_choice-push : (key : ℕ) (entries : List (ℕ × Choice)) (entry : ℕ × Choice) → first_choice key (entries ++ entry ∷ [])
    ≡ option_or (first_choice key entries) (if entry.0 == key then Some entry.1 else None)
first_choice-push key [] entry = refl
first_choice-push key (first ∷ entries) entry =
    ap (cond (first.0 == key) (Some first.1)) (first_choice-push key entries entry)
    ∙ elim (first.0 == key) as (λ b. cond b (Some first.1) (option_or (first_choice key entries)
    (if entry.0 == key then Some entry.1 else None)) ≡ option_or (cond b (Some first.1) (first_choice key entries))
    (if entry.0 == key then Some entry.1 else None)) [ true ↦ refl | false ↦ refl ]

-- ---- a stable sort

tied : (key k : ℕ) → (k == key) ≡ true → (not (is_lt (nat_cmp key k)) && not (is_lt (nat_cmp k key))) ≡ true
tied key k same = grind (arith, common_steps)

pub first_choice-stable : (key : ℕ) (choice : Choice) (xs ys : List (ℕ × Choice)) → IsStableByKey key_of nat_cmp xs ys
    → first_choice key ys ≡ first_choice key xs
first_choice-stable key choice xs ys stable =
    let among : ℕ → Bool = λ k. not (is_lt (nat_cmp key k)) && not (is_lt (nat_cmp k key)) in
    sym (lookup-filter-keys (λ k. k == key) among true (tied key) ys) ∙ ap (first_choice key) (stable (key, choice))
    ∙ lookup-filter-keys (λ k. k == key) among true (tied key) xs

-- ---- entries in order

below_differs : (m n : ℕ) → m < n → (m == n) ≡ false
below_differs m n below = grind (arith, common_steps)

above_differs : (m n : ℕ) → n < m → (m == n) ≡ false
above_differs m n above = grind (arith, common_steps)

is_above : (m n : ℕ) → (m == n) ≡ false → n ≤ m → n < m
is_above m n differ least = grind (arith, common_steps)

skipped : (b : Bool) (a found : Option Choice) → b ≡ false → found ≡ cond b a found
skipped b a found other = grind (arith, common_steps)

module _ (key : ℕ) where
  none_past : (n : ℕ) (entries : List (ℕ × Choice)) → key < n → RisesFrom n entries → None ≡ first_choice key entries
  none_past n [] past up = refl
  none_past n (entry ∷ entries) past up =
      none_past entry.0 entries (omega (arith, up.0)) up.1
      ∙ skipped (entry.0 == key) (Some entry.1) (first_choice key entries) (above_differs entry.0 key (omega (arith, up.0)))

  -- the first of them has the key, or none does
  pub first_or_none : (entry : ℕ × Choice) (entries : List (ℕ × Choice)) → RisesFrom key (entry ∷ entries)
      → (if entry.0 == key then Some entry.1 else None) ≡ first_choice key (entry ∷ entries)
  first_or_none entry entries up =
      elim (entry.0 == key) as (λ b. (entry.0 == key) ≡ b → cond b (Some entry.1) None
      ≡ cond b (Some entry.1) (first_choice key entries)) [
        | true ↦ λ is. refl
        | false ↦ λ is. none_past entry.0 entries (is_above entry.0 key is up.0) up.1
      ] refl

  pub first_there : (rest : List (ℕ × Choice)) (d : ℕ × Choice) → 1 ≤ length rest → RisesFrom key rest
      → (if (get_or rest 0 d).0 == key then Some (get_or rest 0 d).1 else None) ≡ first_choice key rest
  first_there [] d long up = let no : ⊥ = omega arith in absurd no
  first_there (first ∷ rest) d long up = first_or_none first rest up

  pub none_there : (rest : List (ℕ × Choice)) → length rest < 1 → None ≡ first_choice key rest
  none_there [] short = refl
  none_there (entry ∷ rest) short = let no : ⊥ = omega arith in absurd no

  pub from_first : (first : ℕ) (entries : List (ℕ × Choice)) → first ≤ length entries
      → AllWithin (λ entry. ltb (key_of entry) key ≡ true) entries 0 first
      → first_choice key (drop first entries) ≡ first_choice key entries
  from_first zero entries within low = refl
  from_first (suc n) [] within low = let no : ⊥ = omega arith in absurd no
  from_first (suc n) (entry ∷ entries) within low =
      let less = ltb-true _ key (low 0 entry (omega arith) (omega arith)) in
      from_first n entries (omega arith) (λ k d above below. low (suc k) d (omega arith) (omega arith))
      ∙ skipped (entry.0 == key) (Some entry.1) (first_choice key entries) (below_differs entry.0 key (omega (arith, less)))

rises : (n : ℕ) (entries : List (ℕ × Choice)) → ((k : ℕ) (d : ℕ × Choice) → k < length entries → n ≤ (get_or entries k d).0)
    → IsNonDecreasingBy key_of entries → RisesFrom n entries
rises n [] from up = tt
rises n (entry ∷ entries) from up = (
  from 0 entry (omega arith),
  rises entry.0 entries (λ k d within. up 0 (suc k) d (omega arith) (omega arith))
      (λ i j d le within. up (suc i) (suc j) d (omega arith) (omega arith)),
)

pub rises_from : (key first : ℕ) (entries : List (ℕ × Choice)) → IsNonDecreasingBy key_of entries
    → AllWithin (λ entry. ltb (key_of entry) key ≡ false) entries first (length entries) → RisesFrom key (drop first entries)
rises_from key first entries up high =
    rises key (drop first entries) (λ k d within.
    let long = length-drop first entries in
    let here = get_or-drop first entries k d in
    let one = ltb-false _ key (high (first + k) d (omega arith) (omega arith)) in
    omega (arith, ap key_of here)) (IsNonDecreasingBy-drop key_of first entries up)
