-- The parts of a number's text are digits.
use Rattle.std.proofs.Common.{◌≡◌, ℕ, ◌+◌, Bool, true, false, IsTrue, List, [], ◌∷◌, ◌++◌, ℤ, pos, ◌-ℤ◌, ◌+ℤ◌, Option, Some, length}
use Rattle.std.proofs.Common.{drop, take, if◌then◌else◌, get_or, refl, sym, ap, ◌∙◌, arith, inl, inr}
use Rattle.std.specs.List.{list_all, list_any, before_first, after_first, position_or_len}
use Rattle.std.specs.Str.Parse.{without_leading_sign, digits_value, digits_value_after}
use Rattle.std.proofs.lemmas.Bool.{and_parts, cases_Bool, cases_lt, both_ways}
use Rattle.std.proofs.lemmas.Bool.Decides.{nat_tests}
use Rattle.std.proofs.lemmas.List.{get_or_default}
use Rattle.std.proofs.lemmas.List.Folds.{list_any-from_Any}
use Rattle.std.proofs.lemmas.List.Sums.{passes_at_first}
use Rattle.std.proofs.Math.ListN.{drop_of_length-le}
use Rattle.dbc_values.specs.Lexical.{is_digit, is_point, is_exponent_mark, is_signed_digits, is_number}
use Rattle.dbc_values.specs.Numbers.{digits_before_point, digits_after_point, written_exponent, mantissa_of, exponent_of}
use Rattle.dbc_values.specs.Numbers.{HasDigits, OccursFor, IsReduced}
use Rattle.dbc_values.proofs.DigitTexts.{value_append}

pub digits_before : (number : List ℕ) → IsTrue (is_number number) → IsTrue (list_all is_digit (digits_before_point number))
unfolding is_number
digits_before number h = (and_parts _ _ (and_parts _ _ (and_parts _ _ h).0).0).0

pub digits_after : (number : List ℕ) → IsTrue (is_number number) → IsTrue (list_all is_digit (digits_after_point number))
unfolding is_number
digits_after number h = (and_parts _ _ (and_parts _ _ (and_parts _ _ h).0).0).1

pub following_sign : (text : List ℕ) → is_signed_digits text ≡ true → IsTrue (list_all is_digit (without_leading_sign text))
following_sign [] h = refl
following_sign (b ∷ text) h = grind (arith, nat_tests)

nothing_after : (p : ℕ → Bool) (xs : List ℕ) → list_any p xs ≡ false → after_first p xs ≡ []
nothing_after p xs none =
    let i = position_or_len p xs in
    elim (cases_lt i (length xs)) [
      | inl less ↦
          let found : list_any p xs ≡ true = list_any-from_Any p xs (
            i,
            get_or xs i 0,
            less,
            get_or_default xs i (get_or xs i 0) 0 less,
            passes_at_first p xs 0 less,
          ) in
          absurd (both_ways (list_any p xs) none found)
      | inr more ↦ drop_of_length-le xs (omega arith)
    ]

pub digits_of_exponent : (number : List ℕ) → IsTrue (is_number number)
    → IsTrue (list_all is_digit (without_leading_sign (after_first is_exponent_mark number)))
unfolding is_number
digits_of_exponent number h =
    let exponent : (if list_any is_exponent_mark number then is_signed_digits (after_first is_exponent_mark number) else true)
    ≡ true = (and_parts _ _ h).1 in
    elim (cases_Bool (list_any is_exponent_mark number)) [
      | inl some ↦ following_sign (after_first is_exponent_mark number) (rw some at exponent)
      | inr none ↦ rw (nothing_after is_exponent_mark number none) refl
    ]

-- the parts as code splits them off: `m` before the exponent, which begins at i, and m's point at j
pub before_is : (number m part : List ℕ) (i j : ℕ) → i ≡ position_or_len is_exponent_mark number → m ≡ take i number
    → j ≡ position_or_len is_point m → part ≡ take j m → part ≡ digits_before_point number
before_is number m part i j i-is m-is j-is part-is =
    let m-at : m ≡ before_first is_exponent_mark number = m-is ∙ ap (λ (n : ℕ). take n number) i-is in
    part-is ∙ ap (λ (n : ℕ). take n m) j-is ∙ ap (λ (t : List ℕ). before_first is_point t) m-at

pub after_is : (number m part : List ℕ) (i j : ℕ) → i ≡ position_or_len is_exponent_mark number → m ≡ take i number
    → j ≡ position_or_len is_point m → part ≡ drop (j + 1) m → part ≡ digits_after_point number
after_is number m part i j i-is m-is j-is part-is =
    let m-at : m ≡ before_first is_exponent_mark number = m-is ∙ ap (λ (n : ℕ). take n number) i-is in
    part-is ∙ ap (λ (n : ℕ). drop (n + 1) m) j-is ∙ ap (λ (t : List ℕ). after_first is_point t) m-at

pub exponent_is : (number part : List ℕ) (i : ℕ) → i ≡ position_or_len is_exponent_mark number → part ≡ drop (i + 1) number
    → part ≡ after_first is_exponent_mark number
exponent_is number part i i-is part-is = part-is ∙ ap (λ (n : ℕ). drop (n + 1) number) i-is

-- the parts' values are what the number spells
pub reduced : (number before after : List ℕ) (digits : Option ℕ) (zeros : ℕ) (x : ℤ) → before ≡ digits_before_point number
    → after ≡ digits_after_point number
    → HasDigits (digits_value_after 10 (digits_value_after 10 0 before) after) digits zeros
    → OccursFor 1000 ((written_exponent number -ℤ pos (length after)) +ℤ pos zeros) x
    → IsReduced (mantissa_of number) (exponent_of number) digits x
unfolding mantissa_of exponent_of
reduced number before after digits zeros x before-is after-is has occurs = record {
  zeros = zeros;
  front =
      let e : digits_value_after 10 (digits_value_after 10 0 before) after ≡ digits_value 10 (digits_before_point number
      ++ digits_after_point number) =
      sym (value_append 0 before after) ∙ ap (λ (t : List ℕ). digits_value 10 (t ++ after)) before-is
      ∙ ap (λ (t : List ℕ). digits_value 10 (digits_before_point number ++ t)) after-is in
      rw e at has;
  power = rw after-is at occurs;
}

-- nothing read yet
pub no_digits : HasDigits 0 (Some 0) 0
no_digits = record { front = 0; value = refl; last = λ e. refl; kept = refl }
