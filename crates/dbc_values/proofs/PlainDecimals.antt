-- What digits with a point among them spell.
use Rattle.std.proofs.Common.{◌≡◌, ℕ, ◌+◌, ◌-◌, ◌*◌, ◌<◌, ◌≤◌, ◌^◌, true, false, IsTrue, List, [], ◌∷◌, ◌++◌, pos, ◌-ℤ◌}
use Rattle.std.proofs.Common.{length, get_or, take, drop, refl, sym, ap, arith, ◌∙◌}
use Rattle.std.specs.List.{list_all, list_any, before_first, after_first, position_or_len}
use Rattle.std.specs.Str.Parse.{digits_value, digits_value_after}
use Rattle.std.proofs.lemmas.Bool.{and_parts, or_parts}
use Rattle.std.proofs.lemmas.List.{append_assoc, append-nil, take_all}
use Rattle.std.proofs.lemmas.List.Folds.{list_any-append, list_all-append}
use Rattle.std.proofs.Math.Seq.{take-append_seam, drop-append-add}
use Rattle.dbc_values.specs.Lexical.{point, is_digit, is_point, is_exponent_mark, is_number}
use Rattle.dbc_values.specs.Numbers.{mantissa_of, exponent_of, IsDigitsThen, SpellsWhole}
use Rattle.dbc_values.specs.declared.number.Whole.TheVariants.{Value}
use Rattle.dbc_values.proofs.DigitTexts.{value_append, digit_is}
use Rattle.dbc_values.proofs.PlainDigits.{none_among, no_mark, no_point, all_before, none_after, some_digit}
use Rattle.dbc_values.proofs.PlainDigits.{plain_number, plain_mantissa, plain_exponent, plain_spells}

pub nothing_read : (start : ℕ) (bytes : List ℕ) → start < 2 ^ 64 → IsDigitsThen start bytes start bytes
nothing_read start bytes fits = record { front = []; parts = refl; digits = refl; value_of = refl; fits = fits }

one_more : (start : ℕ) (bytes : List ℕ) (value digit new : ℕ) (others : List ℕ) → IsDigitsThen start bytes value (digit ∷ others)
    → is_digit digit ≡ true → new ≡ value * 10 + (digit - 48) → new < 2 ^ 64 → IsDigitsThen start bytes new others
one_more start bytes value digit new others before is new-is fits = record {
  front = before.front ++ digit ∷ [];
  parts = before.parts ∙ sym (append_assoc before.front (digit ∷ []) others);
  digits = list_all-append is_digit before.front (digit ∷ []) ∙ rw (before.digits, is) refl;
  value_of =
      let after : digits_value_after 10 start (before.front ++ digit ∷ [])
      ≡ digits_value_after 10 (digits_value_after 10 start before.front) (digit ∷ []) =
      value_append start before.front (digit ∷ []) in
      let value-is : value ≡ digits_value_after 10 start before.front = before.value_of in
      new-is ∙ ap (λ (n : ℕ). value * 10 + n) (sym (digit_is digit is))
      ∙ ap (λ (n : ℕ). digits_value_after 10 n (digit ∷ [])) value-is ∙ sym after;
  fits = fits;
}

pub one_read : (start : ℕ) (bytes : List ℕ) (value new n : ℕ) (rest : List ℕ) → IsDigitsThen start bytes value rest
    → 1 ≤ length rest → n ≡ length rest - 1 → is_digit (get_or rest 0 0) ≡ true → new ≡ value * 10 + (get_or rest 0 0 - 48)
    → new < 2 ^ 64 → IsDigitsThen start bytes new (take n (drop 1 rest))
one_read start bytes value new n [] before some n-is is new-is fits = absurd (omega arith)
one_read start bytes value new n (digit ∷ others) before some n-is is new-is fits =
    let whole : take n others ≡ others = take_all n others (omega arith) in
    rw whole (one_more start bytes value digit new others before is new-is fits)

no_mark_in : (front fraction : List ℕ) → IsTrue (list_all is_digit front) → IsTrue (list_all is_digit fraction)
    → list_any is_exponent_mark (front ++ point ∷ fraction) ≡ false
no_mark_in front fraction before after =
    list_any-append is_exponent_mark front (point ∷ fraction)
    ∙ rw (none_among is_exponent_mark front no_mark before, none_among is_exponent_mark fraction no_mark after) refl

first_point : (front fraction : List ℕ) → list_any is_point front ≡ false
    → position_or_len is_point (front ++ point ∷ fraction) ≡ length front
first_point [] fraction none = refl
first_point (b ∷ front) fraction none =
    let parts : (is_point b ≡ false) × (list_any is_point front ≡ false) = or_parts _ _ none in
    let more : position_or_len is_point (front ++ point ∷ fraction) ≡ length front = first_point front fraction parts.1 in
    rw (parts.0, more) (omega arith)

-- the parts of digits with a point among them
record Pointed (number front fraction : List ℕ) : Type 0 where
  mantissa : before_first is_exponent_mark number ≡ number
  nothing : after_first is_exponent_mark number ≡ []
  no_exponent : list_any is_exponent_mark number ≡ false
  before : before_first is_point number ≡ front
  after : after_first is_point number ≡ fraction

pointed : (front fraction : List ℕ) → IsTrue (list_all is_digit front) → IsTrue (list_all is_digit fraction)
    → Pointed (front ++ point ∷ fraction) front fraction
pointed front fraction before after =
    let mark = no_mark_in front fraction before after in
    let index = first_point front fraction (none_among is_point front no_point before) in
    record {
      mantissa = all_before is_exponent_mark (front ++ point ∷ fraction) mark;
      nothing = none_after is_exponent_mark (front ++ point ∷ fraction) mark;
      no_exponent = mark;
      before = ap (λ (n : ℕ). take n (front ++ point ∷ fraction)) index ∙ take-append_seam front (point ∷ fraction);
      after = ap (λ (n : ℕ). drop (n + 1) (front ++ point ∷ fraction)) index ∙ drop-append-add front (point ∷ fraction) 1;
    }

any_digit : (front fraction : List ℕ) → IsTrue (list_all is_digit front) → IsTrue (list_all is_digit fraction)
    → 1 < length (front ++ point ∷ fraction) → list_any is_digit (front ++ point ∷ fraction) ≡ true
any_digit [] fraction before after some = some_digit fraction (omega arith) after
any_digit (b ∷ front) fraction before after some =
    let first : is_digit b ≡ true = (and_parts _ _ before).0 in
    rw first refl

-- what digits with at most one point among them spell: this many are after it
pub record Plain (number : List ℕ) (value after : ℕ) : Type 0 where
  pub form : IsTrue (is_number number)
  pub digits : mantissa_of number ≡ value
  pub power : exponent_of number ≡ pos 0 -ℤ pos after

plain_parts : (front fraction : List ℕ) (value : ℕ) → IsTrue (list_all is_digit front) → IsTrue (list_all is_digit fraction)
    → value ≡ digits_value_after 10 (digits_value_after 10 0 front) fraction → 1 < length (front ++ point ∷ fraction)
    → Plain (front ++ point ∷ fraction) value (length fraction)
unfolding is_number mantissa_of exponent_of
plain_parts front fraction value before after value-is some =
    let p = pointed front fraction before after in
    let digit = any_digit front fraction before after some in
    record {
      form = rw (p.mantissa, p.no_exponent, p.before, p.after, before, after, digit) refl;
      digits = rw (p.mantissa, p.before, p.after) (value_append 0 front fraction ∙ sym value-is);
      power = rw (p.nothing, p.mantissa, p.after) refl;
    }

pub plain_point : (number rest end : List ℕ) (whole value n : ℕ) → IsDigitsThen 0 number whole rest → 1 ≤ length rest
    → get_or rest 0 0 ≡ point → n ≡ length rest - 1 → IsDigitsThen whole (take n (drop 1 rest)) value end → length end ≡ 0
    → 1 < length number → Plain number value (length (take n (drop 1 rest)))
plain_point number [] end whole value n first some dot n-is second ended long = absurd (omega arith)
plain_point number (b ∷ fraction) (e ∷ end) whole value n first some dot n-is second ended long = absurd (omega arith)
plain_point number (b ∷ fraction) [] whole value n first some dot n-is second ended long =
    let all : take n fraction ≡ fraction = take_all n fraction (omega arith) in
    let parts : number ≡ first.front ++ point ∷ fraction =
    first.parts ∙ ap (λ (x : ℕ). first.front ++ x ∷ fraction) dot in
    let after : fraction ≡ second.front = sym all ∙ second.parts ∙ append-nil second.front in
    let value-is : value ≡ digits_value_after 10 (digits_value_after 10 0 first.front) fraction =
    second.value_of ∙ ap (λ (m : ℕ). digits_value_after 10 m second.front) first.value_of
    ∙ ap (λ (ds : List ℕ). digits_value_after 10 (digits_value_after 10 0 first.front) ds) (sym after) in
    let fraction-digits : IsTrue (list_all is_digit fraction) = rw after second.digits in
    let length-is : 1 < length (first.front ++ point ∷ fraction) = rw parts at long in
    rw (all, parts) (plain_parts first.front fraction value first.digits fraction-digits value-is length-is)

pub plain_all : (number rest : List ℕ) (value : ℕ) → IsDigitsThen 0 number value rest → length rest < 1 → 0 < length number
    → Plain number value 0
plain_all number (b ∷ rest) value read none some = absurd (omega arith)
plain_all number [] value read none some =
    let parts : number ≡ read.front = read.parts ∙ append-nil read.front in
    let digits : IsTrue (list_all is_digit number) = rw parts read.digits in
    record {
      form = plain_number number some digits;
      digits = plain_mantissa number digits ∙ ap (digits_value 10) parts ∙ sym read.value_of;
      power = plain_exponent number digits;
    }

pub plain_read : (number rest : List ℕ) (value : ℕ) → IsDigitsThen 0 number value rest → length rest < 1 → 0 < length number
    → SpellsWhole number (Value value)
plain_read number (b ∷ rest) value read none some = absurd (omega arith)
plain_read number [] value read none some =
    let parts : number ≡ read.front = read.parts ∙ append-nil read.front in
    let digits : IsTrue (list_all is_digit number) = rw parts read.digits in
    plain_spells number value some digits (read.value_of ∙ sym (ap (digits_value 10) parts)) read.fits
