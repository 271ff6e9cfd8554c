-- What ordered keys determine about a wanted one.
use Rattle.std.proofs.Common.{◌≡◌, ◌≢◌, ◌+◌, ◌<◌, ◌≤◌, ◌==◌, ℕ, Bool, true, false, cond, ◌||◌}
use Rattle.std.proofs.Common.{List, [], ◌∷◌, ◌++◌, take, drop, length, get_or, refl, sym, ap, ◌∙◌, arith}
use Rattle.std.proofs.Common.{get_or-take, get_or-drop, length-take, length-drop, take-append-drop}
use Rattle.std.proofs.Common.{suc, ltb, ltb-true, ltb-false}
use Rattle.std.specs.Prelude.{nat_le, count_by}
use Rattle.std.specs.List.{list_any, AllWithin}
use Rattle.std.specs.List.Sorted.{IsNonDecreasingBy}
use Rattle.std.proofs.lemmas.Grind.{common_steps}
use Rattle.std.proofs.lemmas.List.Sums.{sum_by-cons, sum_by-append}
use Rattle.std.proofs.lemmas.List.Sorted.{IsNonDecreasingBy-drop}
use Rattle.std.proofs.lemmas.Cmp.{eq_by_cmp_equiv, is_eq_index}
use Rattle.std.specs.Cmp.{IsTotalOrder, IsEquivalence}
use Rattle.std.specs.Ordering.{eq_by_cmp, is_lt, ordering_index}
use Rattle.std.specs.declared.cmp.Ordering.{Ordering}
use Rattle.std.specs.declared.cmp.Ordering.TheVariants.{Less, Equal, Greater}
use Rattle.can_references.specs.inner.KeySets.{rank, RisesFrom}

-- some pass the test if their count is at least 1
any_step : (e b : Bool) (n : ℕ) → b ≡ nat_le 1 n → (e || b) ≡ nat_le 1 (cond e 1 0 + n)
any_step true b n is = grind (arith, common_steps)
any_step false b n is = grind (arith, common_steps)

pub any_is_one : {X : Type 0} (p : X → Bool) (xs : List X) → list_any p xs ≡ nat_le 1 (count_by p xs)
any_is_one p [] = refl
any_is_one p (x ∷ xs) = any_step (p x) (list_any p xs) (count_by p xs) (any_is_one p xs)
    ∙ ap (nat_le 1) (sym (sum_by-cons (λ y. cond (p y) 1 0) x xs))

-- ---- ranks of items, of which those that are 1 pass a test

passes_not : (b : Bool) (n : ℕ) → b ≡ (n == 1) → n ≢ 1 → b ≡ false
passes_not b n tie other = grind (arith, common_steps)

passes : (b : Bool) (n : ℕ) → b ≡ (n == 1) → n ≡ 1 → b ≡ true
passes b n tie is = grind (arith, common_steps)

is_one : (b : Bool) (n : ℕ) → b ≡ (n == 1) → b ≡ true → n ≡ 1
is_one b n tie is = grind (arith, common_steps)

is_far : (b : Bool) (n : ℕ) → b ≡ (n == 1) → b ≡ false → 1 ≤ n → 2 ≤ n
is_far b n tie is low = grind (arith, common_steps)

none_step : (b : Bool) (n : ℕ) → b ≡ false → n ≡ 0 → cond b 1 0 + n ≡ 0
none_step b n other none = grind (arith, common_steps)

one_step : (b : Bool) (n : ℕ) → (b ≡ false → n ≡ 0) → nat_le 1 (cond b 1 0 + n) ≡ b
one_step true n none = grind (arith, common_steps)
one_step false n none = let h : n ≡ 0 = none refl in grind (arith, common_steps)

two_step : (a b : Bool) (n : ℕ) → (b ≡ true → a ≡ true) → (b ≡ false → n ≡ 0)
    → nat_le 2 (cond a 1 0 + (cond b 1 0 + n)) ≡ b
two_step true true n near none = grind (arith, common_steps)
two_step false true n near none = let h : false ≡ true = near refl in grind (arith, common_steps)
two_step true false n near none = let h : n ≡ 0 = none refl in grind (arith, common_steps)
two_step false false n near none = let h : n ≡ 0 = none refl in grind (arith, common_steps)

one_alone : (b : Bool) → nat_le 2 (cond b 1 0 + 0) ≡ false
one_alone true = refl
one_alone false = refl

module _ {X : Type 0} (p : X → Bool) (number : X → ℕ) (tie : (x : X) → p x ≡ (number x == 1)) where
  count_cons : (x : X) (xs : List X) → count_by p (x ∷ xs) ≡ cond (p x) 1 0 + count_by p xs
  count_cons x xs = sum_by-cons (λ y. cond (p y) 1 0) x xs

  none_past : (n : ℕ) (xs : List X) → 2 ≤ n → RisesFrom number n xs → count_by p xs ≡ 0
  none_past n [] past up = refl
  none_past n (x ∷ xs) past up =
      count_cons x xs ∙ none_step (p x) (count_by p xs) (passes_not (p x) (number x) (tie x) (omega (arith, up.0)))
      (none_past (number x) xs (omega (arith, up.0)) up.1)

  none_following : (x : X) (xs : List X) → RisesFrom number 1 (x ∷ xs) → p x ≡ false → count_by p xs ≡ 0
  none_following x xs up other = none_past (number x) xs (is_far (p x) (number x) (tie x) other up.0) up.1

  -- the first passes, or none does
  pub first_passes : (x : X) (xs : List X) → RisesFrom number 1 (x ∷ xs) → nat_le 1 (count_by p (x ∷ xs)) ≡ p x
  first_passes x xs up = ap (nat_le 1) (count_cons x xs) ∙ one_step (p x) (count_by p xs) (none_following x xs up)

  -- the second passes, or at most one does
  pub second_passes : (x y : X) (xs : List X) → RisesFrom number 1 (x ∷ (y ∷ xs)) → nat_le 2 (count_by p (x ∷ (y ∷ xs))) ≡ p y
  second_passes x y xs up =
      ap (nat_le 2) (count_cons x (y ∷ xs) ∙ ap (λ (n : ℕ). cond (p x) 1 0 + n) (count_cons y xs))
      ∙ two_step (p x) (p y) (count_by p xs)
      (λ is. let one = is_one (p y) (number y) (tie y) is in passes (p x) (number x) (tie x) (omega (arith, up.0, up.1.0)))
      (λ other. none_past (number y) xs (is_far (p y) (number y) (tie y) other (omega (arith, up.0, up.1.0))) up.1.1)

  pub none_alone : (x : X) → nat_le 2 (count_by p (x ∷ [])) ≡ false
  none_alone x = ap (nat_le 2) (count_cons x []) ∙ one_alone (p x)

  -- ---- the items from the first on that is not 0

  none_before : (xs : List X) → AllWithin (λ x. number x ≡ 0) xs 0 (length xs) → count_by p xs ≡ 0
  none_before [] low = refl
  none_before (x ∷ xs) low =
      count_cons x xs
      ∙ none_step (p x) (count_by p xs) (passes_not (p x) (number x) (tie x) (omega (arith, low 0 x (omega arith) (omega arith))))
      (none_before xs (λ k d above below. low (suc k) d (omega arith) (omega arith)))

  first_low : (first : ℕ) (xs : List X) → first ≤ length xs → AllWithin (λ x. ltb (number x) 1 ≡ true) xs 0 first
      → count_by p (take first xs) ≡ 0
  first_low first xs within low =
      none_before (take first xs) (λ k d above below.
      let long = length-take first xs in
      let here = get_or-take first xs k d (omega arith) in
      let zero = ltb-true _ 1 (low k d above (omega arith)) in
      omega (arith, ap number here))

  pub all_from : (first : ℕ) (xs : List X) → first ≤ length xs → AllWithin (λ x. ltb (number x) 1 ≡ true) xs 0 first
      → count_by p (drop first xs) ≡ count_by p xs
  all_from first xs within low =
      let none = first_low first xs within low in
      let parts : count_by p (take first xs ++ drop first xs) ≡ count_by p (take first xs) + count_by p (drop first xs)
      = sum_by-append (λ y. cond (p y) 1 0) (take first xs) (drop first xs) in
      let whole = ap (count_by p) (take-append-drop first xs) in
      omega arith

  -- ---- what the items from there on determine about all

  pub has_none : (whole rest : List X) → length rest < 1 → count_by p rest ≡ count_by p whole → false ≡ list_any p whole
  has_none whole [] short all = ap (nat_le 1) all ∙ sym (any_is_one p whole)
  has_none whole (x ∷ xs) short all = let no : ⊥ = omega arith in absurd no

  pub has_first : (whole rest : List X) (x : X) → 1 ≤ length rest → x ≡ get_or rest 0 x → RisesFrom number 1 rest
      → count_by p rest ≡ count_by p whole → p x ≡ list_any p whole
  has_first whole [] x long is up all = let no : ⊥ = omega arith in absurd no
  has_first whole (y ∷ ys) x long is up all = ap p is ∙ sym (first_passes y ys up) ∙ ap (nat_le 1) all ∙ sym (any_is_one p whole)

  pub has_second : (whole rest : List X) (y : X) → 2 ≤ length rest → y ≡ get_or rest 1 y → RisesFrom number 1 rest
      → count_by p rest ≡ count_by p whole → p y ≡ nat_le 2 (count_by p whole)
  has_second whole [] y long is up all = let no : ⊥ = omega arith in absurd no
  has_second whole (x ∷ []) y long is up all = let no : ⊥ = omega arith in absurd no
  has_second whole (x ∷ (z ∷ xs)) y long is up all = ap p is ∙ sym (second_passes x z xs up) ∙ ap (nat_le 2) all

-- ---- ranks that do not fall

module _ {X : Type 0} (number : X → ℕ) where
  rises : (n : ℕ) (xs : List X) → ((k : ℕ) (d : X) → k < length xs → n ≤ number (get_or xs k d)) → IsNonDecreasingBy number xs
      → RisesFrom number n xs
  rises n [] from up = tt
  rises n (x ∷ xs) from up = (
    from 0 x (omega arith),
    rises (number x) xs (λ k d within. up 0 (suc k) d (omega arith) (omega arith))
        (λ i j d le within. up (suc i) (suc j) d (omega arith) (omega arith)),
  )

  pub rises_from : (low first : ℕ) (xs : List X) → IsNonDecreasingBy number xs
      → AllWithin (λ x. ltb (number x) low ≡ false) xs first (length xs) → RisesFrom number low (drop first xs)
  rises_from low first xs up high =
      rises low (drop first xs) (λ k d within.
      let long = length-drop first xs in
      let here = get_or-drop first xs k d in
      let one = ltb-false _ low (high (first + k) d (omega arith) (omega arith)) in
      omega (arith, ap number here)) (IsNonDecreasingBy-drop number first xs up)

-- ---- ranks

pub is_lt_rank : (o : Ordering) → is_lt o ≡ ltb (ordering_index o) 1
is_lt_rank Less = refl
is_lt_rank Equal = refl
is_lt_rank Greater = refl

-- the keys that are equal to the one that is asked for are those of rank 1
pub same_rank : {K : Type 0} {cmp : K → K → Ordering} {same : K → K → Bool} (o : IsTotalOrder cmp)
    → ((x y : K) → same x y ≡ eq_by_cmp cmp x y) → (asked key : K) → same asked key ≡ (rank cmp asked key == 1)
same_rank {K} {cmp} o tied asked key =
    let laws : IsEquivalence (eq_by_cmp cmp) = eq_by_cmp_equiv o in
    tied asked key ∙ laws.symm asked key ∙ is_eq_index (cmp key asked)
