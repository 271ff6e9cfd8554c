-- What a number with an exponent means, where what is before its exponent is read by itself.
use Rattle.std.proofs.Common.{◌≡◌, ℕ, ◌+◌, ◌<◌, Bool, true, false, IsTrue, List, [], ◌∷◌, ◌++◌, ℤ, pos, ◌-ℤ◌, suc}
use Rattle.std.proofs.Common.{length, get_or, take, drop, refl, sym, ap, subst, ◌∙◌, arith, inl, inr}
use Rattle.std.specs.Prelude.{Option, Some, None, MatchOption}
use Rattle.std.specs.List.{list_any, before_first, after_first, position_or_len}
use Rattle.std.specs.Str.Parse.{digits_value, signed_digits_value}
use Rattle.std.proofs.lemmas.Bool.{and_parts, and_from, and_right, cases_Bool}
use Rattle.std.proofs.lemmas.Int.{ints}
use Rattle.std.proofs.lemmas.List.{get_or_default}
use Rattle.std.proofs.lemmas.List.Folds.{list_any-from_Any}
use Rattle.std.proofs.lemmas.List.Sums.{passes_at_first}
use Rattle.dbc_values.specs.Lexical.{is_point, is_exponent_mark, is_mantissa, is_signed_digits, is_number}
use Rattle.dbc_values.specs.Numbers.{mantissa_of, exponent_of, written_exponent, digits_after_point, IsReduced}
use Rattle.dbc_values.specs.declared.number.Reduced.{Reduced}
use Rattle.dbc_values.proofs.PlainDigits.{all_before, none_after}

none_before : (p : ℕ → Bool) (xs : List ℕ) → list_any p (before_first p xs) ≡ false
none_before p [] = refl
none_before p (x ∷ xs) =
    elim (cases_Bool (p x)) [
      | inl y ↦ let index : position_or_len p (x ∷ xs) ≡ 0 = rw y (omega arith) in rw index refl
      | inr n ↦
          let index : position_or_len p (x ∷ xs) ≡ suc (position_or_len p xs) = rw n (omega arith) in
          rw (index, n) (none_before p xs)
    ]

some_there : (p : ℕ → Bool) (xs : List ℕ) → position_or_len p xs < length xs → list_any p xs ≡ true
some_there p xs less =
    let i = position_or_len p xs in
    list_any-from_Any p xs (i, get_or xs i 0, less, get_or_default xs i (get_or xs i 0) 0 less, passes_at_first p xs 0 less)

-- what is before the exponent is no longer than itself
alone : (number : List ℕ) → before_first is_exponent_mark (before_first is_exponent_mark number)
    ≡ before_first is_exponent_mark number
alone number = all_before is_exponent_mark (before_first is_exponent_mark number) (none_before is_exponent_mark number)

mantissa_form : (number : List ℕ) → IsTrue (is_number (before_first is_exponent_mark number))
    → is_mantissa (before_first is_exponent_mark number) ≡ true
unfolding is_number
mantissa_form number h = sym (ap is_mantissa (alone number)) ∙ (and_parts _ _ h).0

pub whole_form : (number : List ℕ) → position_or_len is_exponent_mark number < length number
    → IsTrue (is_number (before_first is_exponent_mark number)) → is_signed_digits (after_first is_exponent_mark number) ≡ true
    → IsTrue (is_number number)
unfolding is_number
whole_form number less h signed = and_from _ _ (mantissa_form number h) (rw (some_there is_exponent_mark number less) signed)

pub no_form : (number : List ℕ) → position_or_len is_exponent_mark number < length number
    → is_signed_digits (after_first is_exponent_mark number) ≡ false → is_number number ≡ false
unfolding is_number
no_form number less unsigned = rw (some_there is_exponent_mark number less) (and_right _ _ unsigned)

same_mantissa : (number : List ℕ) → mantissa_of (before_first is_exponent_mark number) ≡ mantissa_of number
unfolding mantissa_of
same_mantissa number =
    ap (λ (t : List ℕ). digits_value 10 (before_first is_point t ++ after_first is_point t)) (alone number)

-- how many digits are after the point
after_point : (number : List ℕ) (after : ℕ) → exponent_of (before_first is_exponent_mark number) ≡ pos 0 -ℤ pos after
    → length (digits_after_point number) ≡ after
unfolding exponent_of
after_point number after power =
    let t = before_first is_exponent_mark number in
    let none : after_first is_exponent_mark t ≡ [] = none_after is_exponent_mark t (none_before is_exponent_mark number) in
    let here : pos 0 -ℤ pos (length (after_first is_point t)) ≡ pos 0 -ℤ pos after
    = sym (ap (λ (x : List ℕ). signed_digits_value 10 x -ℤ pos (length (after_first is_point t))) none)
    ∙ sym (ap (λ (x : List ℕ). written_exponent t -ℤ pos (length (after_first is_point x))) (alone number)) ∙ power in
    omega (arith, ints, here)

pub whole_power : (number : List ℕ) (after : ℕ) → exponent_of (before_first is_exponent_mark number) ≡ pos 0 -ℤ pos after
    → signed_digits_value 10 (after_first is_exponent_mark number) -ℤ pos after ≡ exponent_of number
unfolding exponent_of
whole_power number after power = ap (λ (n : ℕ). written_exponent number -ℤ pos n) (sym (after_point number after power))

pub whole_reduced : (number m : List ℕ) (value after : ℕ) (e : ℤ) (digits : Option ℕ) (x : ℤ)
    → m ≡ before_first is_exponent_mark number → mantissa_of m ≡ value → exponent_of m ≡ pos 0 -ℤ pos after
    → e ≡ signed_digits_value 10 (after_first is_exponent_mark number)
    → IsReduced value (e -ℤ pos after) digits x → IsReduced (mantissa_of number) (exponent_of number) digits x
whole_reduced number m value after e digits x m-is value-is power e-is has =
    let mantissa : value ≡ mantissa_of number = sym value-is ∙ ap mantissa_of m-is ∙ same_mantissa number in
    let exponent : e -ℤ pos after ≡ exponent_of number
    = ap (λ (k : ℤ). k -ℤ pos after) e-is ∙ whole_power number after (sym (ap exponent_of m-is) ∙ power) in
    subst (λ (k : ℤ). IsReduced (mantissa_of number) k digits x) exponent
    (subst (λ (n : ℕ). IsReduced n (e -ℤ pos after) digits x) mantissa has)

-- the parts as code splits them off: `m` is before the exponent, which begins at i, and `x` is after its mark
pub whole_result : (number m x : List ℕ) (i value after : ℕ) (result : Option Reduced)
    → i ≡ position_or_len is_exponent_mark number → m ≡ take i number → x ≡ drop (i + 1) number → i < length number
    → IsTrue (is_number m) → mantissa_of m ≡ value → exponent_of m ≡ pos 0 -ℤ pos after
    → MatchOption result (is_signed_digits x ≡ false) (λ r. IsTrue (is_signed_digits x)
    × IsReduced value (signed_digits_value 10 x -ℤ pos after) r.digits r.exponent)
    → MatchOption result (is_number number ≡ false) (λ r. IsTrue (is_number number)
    × IsReduced (mantissa_of number) (exponent_of number) r.digits r.exponent)
whole_result number m x i value after None i-is m-is x-is less form value-is power unsigned =
    let x-at : x ≡ after_first is_exponent_mark number = x-is ∙ ap (λ (n : ℕ). drop (n + 1) number) i-is in
    no_form number (omega (arith, i-is, less)) (sym (ap is_signed_digits x-at) ∙ unsigned)
whole_result number m x i value after (Some r) i-is m-is x-is less form value-is power (signed, has) =
    let x-at : x ≡ after_first is_exponent_mark number = x-is ∙ ap (λ (n : ℕ). drop (n + 1) number) i-is in
    let m-at : m ≡ before_first is_exponent_mark number = m-is ∙ ap (λ (n : ℕ). take n number) i-is in (
      whole_form number (omega (arith, i-is, less)) (subst (λ (t : List ℕ). IsTrue (is_number t)) m-at form)
          (sym (ap is_signed_digits x-at) ∙ signed),
      whole_reduced number m value after _ r.digits r.exponent m-at value-is power (ap (signed_digits_value 10) x-at) has,
    )
