-- What digits alone spell.
use Rattle.std.proofs.Common.{◌≡◌, ℕ, ◌<◌, ◌≤◌, ◌^◌, Bool, true, false, IsTrue, List, [], ◌∷◌, pos}
use Rattle.std.proofs.Common.{length, get_or, refl, arith, inl, inr}
use Rattle.std.specs.List.{list_all, list_any, before_first, after_first, position_or_len}
use Rattle.std.specs.Str.Parse.{digits_value}
use Rattle.std.proofs.lemmas.Bool.{and_parts, cases_lt, both_ways}
use Rattle.std.proofs.lemmas.Bool.Decides.{nat_tests}
use Rattle.std.proofs.lemmas.List.{get_or_default, append-nil, take_all}
use Rattle.std.proofs.lemmas.List.Folds.{list_any-from_Any}
use Rattle.std.proofs.lemmas.List.Sums.{passes_at_first}
use Rattle.std.proofs.Math.ListN.{drop_of_length-le}
use Rattle.dbc_values.specs.Lexical.{is_digit, is_point, is_exponent_mark, is_number}
use Rattle.dbc_values.specs.Numbers.{mantissa_of, exponent_of, IsWholeNumber, SpellsWhole}
use Rattle.dbc_values.specs.declared.number.Whole.TheVariants.{Value}

absent : (p : ℕ → Bool) (xs : List ℕ) → list_any p xs ≡ false → length xs ≤ position_or_len p xs
absent p xs none =
    let i = position_or_len p xs in
    elim (cases_lt i (length xs)) [
      | inl less ↦
          let found : list_any p xs ≡ true = list_any-from_Any p xs (
            i,
            get_or xs i 0,
            less,
            get_or_default xs i (get_or xs i 0) 0 less,
            passes_at_first p xs 0 less,
          ) in
          absurd (both_ways (list_any p xs) none found)
      | inr more ↦ omega arith
    ]

pub all_before : (p : ℕ → Bool) (xs : List ℕ) → list_any p xs ≡ false → before_first p xs ≡ xs
all_before p xs none = take_all (position_or_len p xs) xs (absent p xs none)

pub none_after : (p : ℕ → Bool) (xs : List ℕ) → list_any p xs ≡ false → after_first p xs ≡ []
none_after p xs none = let far = absent p xs none in drop_of_length-le xs (omega arith)

pub none_among : (p : ℕ → Bool) (xs : List ℕ) → ((b : ℕ) → is_digit b ≡ true → p b ≡ false) → IsTrue (list_all is_digit xs)
    → list_any p xs ≡ false
none_among p [] other digits = refl
none_among p (x ∷ xs) other digits =
    let parts = and_parts _ _ digits in rw (other x parts.0) (none_among p xs other parts.1)

pub no_mark : (b : ℕ) → is_digit b ≡ true → is_exponent_mark b ≡ false
no_mark b digit = grind (arith, nat_tests)

pub no_point : (b : ℕ) → is_digit b ≡ true → is_point b ≡ false
no_point b digit = grind (arith, nat_tests)

pub some_digit : (xs : List ℕ) → 0 < length xs → IsTrue (list_all is_digit xs) → list_any is_digit xs ≡ true
some_digit [] more digits = absurd (omega arith)
some_digit (x ∷ xs) more digits = let first : is_digit x ≡ true = (and_parts _ _ digits).0 in rw first refl

pub plain_number : (number : List ℕ) → 0 < length number → IsTrue (list_all is_digit number) → IsTrue (is_number number)
unfolding is_number
plain_number number more digits =
    let mark = none_among is_exponent_mark number no_mark digits in
    let dot = none_among is_point number no_point digits in
    rw (
      mark,
      all_before is_exponent_mark number mark,
      all_before is_point number dot,
      none_after is_point number dot,
      digits,
      some_digit number more digits,
    )
    refl

pub plain_mantissa : (number : List ℕ) → IsTrue (list_all is_digit number) → mantissa_of number ≡ digits_value 10 number
unfolding mantissa_of
plain_mantissa number digits =
    let mark = none_among is_exponent_mark number no_mark digits in
    let dot = none_among is_point number no_point digits in
    rw (all_before is_exponent_mark number mark, all_before is_point number dot, none_after is_point number dot, append-nil number)
    refl

pub plain_exponent : (number : List ℕ) → IsTrue (list_all is_digit number) → exponent_of number ≡ pos 0
unfolding exponent_of
plain_exponent number digits =
    let mark = none_among is_exponent_mark number no_mark digits in
    let dot = none_among is_point number no_point digits in
    rw (all_before is_exponent_mark number mark, none_after is_exponent_mark number mark, none_after is_point number dot) refl

pub plain_spells : (number : List ℕ) (n : ℕ) → 0 < length number → IsTrue (list_all is_digit number) → n ≡ digits_value 10 number
    → n < 2 ^ 64 → SpellsWhole number (Value n)
unfolding IsWholeNumber
plain_spells number n more digits is fits = record {
  form = plain_number number more digits;
  is = rw (plain_mantissa number digits, plain_exponent number digits) (fits, omega (arith, is));
}
