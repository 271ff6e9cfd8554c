-- One digit more after a number of which the zeros at the end are counted.
use Rattle.std.proofs.Common.{◌≡◌, ℕ, ◌+◌, ◌*◌, ◌^◌, ◌%◌, ◌<◌, ◌≤◌, Option, Some, None, sym, ap, ◌∙◌, arith}
use Rattle.std.proofs.lemmas.Bool.Decides.{nat_tests}
use Rattle.std.proofs.lemmas.Nat.{mod-mul-add}
use Rattle.dbc_values.specs.Numbers.{HasDigits, at_most_36_digits}
use Rattle.dbc_values.proofs.Powers.{tens_more, tens_none, at_least_itself}

pub zero_after : (m : ℕ) (digits : Option ℕ) (zeros : ℕ) → HasDigits m digits zeros → HasDigits (m * 10 + 0) digits (zeros + 1)
zero_after m digits zeros h = record {
  front = h.front;
  value = let e : m * 10 + 0 ≡ h.front * 10 ^ zeros * 10 = omega (arith, ap (λ (n : ℕ). n * 10) h.value) in e
      ∙ tens_more h.front zeros;
  last = h.last;
  kept = h.kept;
}

pub digit_after : (m : ℕ) (digits : Option ℕ) (zeros digit : ℕ) (h : HasDigits m digits zeros) → 0 < digit → digit < 10
    → (more : Option ℕ) → more ≡ at_most_36_digits (h.front * 10 ^ (zeros + 1) + digit) → HasDigits (m * 10 + digit) more 0
digit_after m digits zeros digit h some small more kept = record {
  front = h.front * 10 ^ (zeros + 1) + digit;
  value =
      let e : m * 10 ≡ h.front * 10 ^ (zeros + 1) = ap (λ (n : ℕ). n * 10) h.value ∙ tens_more h.front zeros in
      ap (λ (n : ℕ). n + digit) e ∙ sym (tens_none (h.front * 10 ^ (zeros + 1) + digit));
  last = λ zero.
      let e : h.front * 10 ^ (zeros + 1) + digit ≡ h.front * 10 ^ zeros * 10 + digit =
      ap (λ (n : ℕ). n + digit) (sym (tens_more h.front zeros)) in
      let r : (h.front * 10 ^ (zeros + 1) + digit) % 10 ≡ digit = ap (λ (n : ℕ). n % 10) e
      ∙ mod-mul-add (h.front * 10 ^ zeros) 10 digit small in
      absurd (omega arith);
  kept = kept;
}

pub kept_is : (n m : ℕ) → Some n ≡ at_most_36_digits m → n ≡ m
kept_is n m e = grind (arith, nat_tests)

pub kept_small : (n m : ℕ) → Some n ≡ at_most_36_digits m → n < 10 ^ 36
kept_small n m e = grind (arith, nat_tests)

pub dropped_is : (m : ℕ) → None ≡ at_most_36_digits m → 10 ^ 36 ≤ m
dropped_is m e = grind (arith, nat_tests)

dropped : (m : ℕ) → 10 ^ 36 ≤ m → None ≡ at_most_36_digits m
dropped m h = grind (arith, nat_tests)

pub digit_after_some : (m n zeros digit : ℕ) → HasDigits m (Some n) zeros → 0 < digit → digit < 10
    → (more : Option ℕ) → more ≡ at_most_36_digits (n * 10 ^ (zeros + 1) + digit) → HasDigits (m * 10 + digit) more 0
digit_after_some m n zeros digit h some small more kept =
    digit_after m (Some n) zeros digit h some small more (kept ∙ ap (λ (i : ℕ). at_most_36_digits (i * 10 ^ (zeros + 1) + digit))
    (kept_is n h.front h.kept))

pub digit_after_none : (m zeros digit : ℕ) → HasDigits m None zeros → 0 < digit → digit < 10 → HasDigits (m * 10 + digit) None 0
digit_after_none m zeros digit h some small =
    let long : 10 ^ 36 ≤ h.front = dropped_is h.front h.kept in
    digit_after m None zeros digit h some small None (dropped (h.front * 10 ^ (zeros + 1) + digit)
    (omega (arith, at_least_itself h.front (zeros + 1))))
