-- What signals in the order of their message IDs determine about a wanted one.
use Rattle.std.proofs.Common.{◌≡◌, ◌≢◌, ◌+◌, ◌<◌, ◌≤◌, ◌==◌, ℕ, zero, suc, Bool, true, false, ◌&&◌, ◌||◌}
use Rattle.std.proofs.Common.{List, [], ◌∷◌, drop, map, length, get_or, refl, sym, ap, subst, ◌∙◌, arith, ltb, ltb-true}
use Rattle.std.specs.List.{list_any, AllWithin}
use Rattle.std.specs.Str.{bytes_eq}
use Rattle.std.proofs.lemmas.Grind.{common_steps}
use Rattle.std.proofs.lemmas.List.{drop_more}
use Rattle.can_references.specs.inner.KeySets.{RisesFrom}
use Rattle.can_references.specs.inner.SignalRuns.{message_number, is_signal}
use Rattle.can_references.specs.declared.numbered.Numbered.{Numbered}

pub any_map : {X Y : Type 0} (p : Y → Bool) (f : X → Y) (xs : List X) → list_any (λ x. p (f x)) xs ≡ list_any p (map f xs)
any_map p f [] = refl
any_map p f (x ∷ xs) = ap (λ b. p (f x) || b) (any_map p f xs)

failed : (e b : Bool) → e ≡ false → b ≡ (e || b)
failed e b fails = grind (arith, common_steps)

passed : (e b : Bool) → e ≡ true → true ≡ (e || b)
passed e b passes = grind (arith, common_steps)

-- all that pass are after the first ones, of which none does
pub any_from : {X : Type 0} (p : X → Bool) (first : ℕ) (xs : List X) → first ≤ length xs
    → AllWithin (λ x. p x ≡ false) xs 0 first → list_any p (drop first xs) ≡ list_any p xs
any_from p zero xs within none = refl
any_from p (suc n) [] within none = let no : ⊥ = omega arith in absurd no
any_from p (suc n) (x ∷ xs) within none =
    any_from p n xs (omega arith) (λ k d above below. none (suc k) d (omega arith) (omega arith))
    ∙ failed (p x) (list_any p xs) (none 0 x (omega arith) (omega arith))

other_number : (m n : ℕ) (e : Bool) → m ≢ n → ((m == n) && e) ≡ false
other_number m n e differ = grind (arith, common_steps)

both : (m n : ℕ) (e : Bool) → m ≡ n → e ≡ true → ((m == n) && e) ≡ true
both m n e number name = grind (arith, common_steps)

other_name : (m n : ℕ) (e : Bool) → e ≡ false → ((m == n) && e) ≡ false
other_name m n e name = grind (arith, common_steps)

module _ (number : ℕ) (name : List ℕ) where
  none_past : (n : ℕ) (signals : List Numbered) → number < n → RisesFrom message_number n signals
      → false ≡ list_any (is_signal number name) signals
  none_past n [] past up = refl
  none_past n (signal ∷ signals) past up =
      none_past (message_number signal) signals (omega (arith, up.0)) up.1
      ∙ failed (is_signal number name signal) (list_any (is_signal number name) signals)
      (other_number number signal.number (bytes_eq name signal.name.now) (omega (arith, up.0)))

  pub all_from : (signals : List Numbered) (first : ℕ) → first ≤ length signals
      → AllWithin (λ signal. ltb (message_number signal) number ≡ true) signals 0 first
      → list_any (is_signal number name) (drop first signals) ≡ list_any (is_signal number name) signals
  all_from signals first within low = any_from (is_signal number name) first signals within (λ k d above below.
      let less = ltb-true _ number (low k d above below) in
      other_number number (get_or signals k d).number (bytes_eq name (get_or signals k d).name.now) (omega (arith, less)))

  -- ---- the signals one after another

  module _ (signals : List Numbered) (index : ℕ) (d : Numbered) (within : index < length signals)
      (up : RisesFrom message_number number (drop index signals))
      (all : list_any (is_signal number name) (drop index signals) ≡ list_any (is_signal number name) signals) where
    here : RisesFrom message_number number (get_or signals index d ∷ drop (index + 1) signals)
    here = subst (RisesFrom message_number number) (drop_more signals index d within) up

    left : list_any (is_signal number name) (get_or signals index d ∷ drop (index + 1) signals)
        ≡ list_any (is_signal number name) signals
    left = ap (list_any (is_signal number name)) (sym (drop_more signals index d within)) ∙ all

    pub none_left : (get_or signals index d).number ≢ number → false ≡ list_any (is_signal number name) signals
    none_left other =
        none_past (get_or signals index d).number (drop (index + 1) signals) (omega (arith, here.0)) here.1
        ∙ failed (is_signal number name (get_or signals index d)) (list_any (is_signal number name) (drop (index + 1) signals))
        (other_number number (get_or signals index d).number (bytes_eq name (get_or signals index d).name.now)
        (λ is. other (sym is)))
        ∙ left

    pub one_here : (get_or signals index d).number ≡ number → bytes_eq name (get_or signals index d).name.now ≡ true
        → true ≡ list_any (is_signal number name) signals
    one_here same named =
        passed (is_signal number name (get_or signals index d)) (list_any (is_signal number name) (drop (index + 1) signals))
        (both number (get_or signals index d).number (bytes_eq name (get_or signals index d).name.now) (sym same) named)
        ∙ left

    pub rises_on : (get_or signals index d).number ≡ number → RisesFrom message_number number (drop (index + 1) signals)
    rises_on same = subst (λ n. RisesFrom message_number n (drop (index + 1) signals)) same here.1

    pub all_on : bytes_eq name (get_or signals index d).name.now ≡ false
        → list_any (is_signal number name) (drop (index + 1) signals) ≡ list_any (is_signal number name) signals
    all_on other =
        failed (is_signal number name (get_or signals index d)) (list_any (is_signal number name) (drop (index + 1) signals))
        (other_name number (get_or signals index d).number (bytes_eq name (get_or signals index d).name.now) other)
        ∙ left
