-- What a decimal is printed as spells it: digits and zeros, digits around a point, or digits and an exponent.
use Rattle.std.proofs.Common.{◌≡◌, ℕ, zero, suc, ◌+◌, ◌-◌, ◌*◌, ◌<◌, ◌^◌, ℤ, pos, negsuc, ◌+ℤ◌, ◌-ℤ◌, ◌≤ℤ◌, Bool, true, false, cond}
use Rattle.std.proofs.Common.{not, ◌&&◌, List, [], ◌∷◌, ◌++◌, length, take, drop, length-append, refl, sym, ap, subst, ◌∙◌}
use Rattle.std.proofs.Common.{append-nil, arith, inl, inr}
use Rattle.std.specs.Prelude.{decimal, IsTrue, nat_le}
use Rattle.std.specs.List.{list_all, before_first, after_first}
use Rattle.std.specs.Ordering.{int_eq}
use Rattle.std.specs.Str.Parse.{digits_value, digits_value_after, signed_digits_value}
use Rattle.std.proofs.lemmas.Bool.{and_parts, and_from, cases_eq, eq-eqb}
use Rattle.std.proofs.lemmas.Bool.Decides.{Decides-int_eq, nat_tests}
use Rattle.std.proofs.lemmas.Int.{ints}
use Rattle.std.specs.Prelude.{neg_ℤ, ◌==◌}
use Rattle.std.proofs.lemmas.List.{length-drop, take-append-drop, length-replicate}
use Rattle.dbc_values.specs.Lexical.{point, is_digit, is_digits, is_point, is_exponent_mark, is_number}
use Rattle.dbc_values.specs.Numbers.{mantissa_of, exponent_of}
use Rattle.dbc_values.specs.Decimals.{Decimal, IsDecimal, HasValue, SpellsDecimal, decimal_fits}
use Rattle.dbc_records.specs.Layout.{zeros, filled, point_before_last, with_exponent, magnitude_text, plain_digits}
use Rattle.dbc_values.proofs.DigitTexts.{value_append}
use Rattle.dbc_values.proofs.NormalForms.{bounds_of}
use Rattle.dbc_values.proofs.Powers.{tens_apart, tens_none}
use Rattle.dbc_read.proofs.Items.Digits.{digits_from_all, all_decimal, some_decimal, digits_decimal, value_decimal}
use Rattle.dbc_tokens.proofs.NumberParts.{IsMantissa, IsExponent, digits_parts, halves_none, halves_some, number_test}
use Rattle.dbc_tokens.proofs.NumberParts.{mantissa_bytes, is_mantissa_byte}
use Rattle.dbc_tokens.proofs.Runs.{all_append, all_weaker}
use Rattle.dbc_reader.proofs.Sound.Tags.{digits_are}

-- ---- what a text is as a number

record Reads (text : List ℕ) (m : ℕ) (e : ℤ) : Type 0 where
  form : is_number text ≡ true
  mantissa : mantissa_of text ≡ m
  exponent : exponent_of text ≡ e

-- digits alone
reads_digits : (digits : List ℕ) → is_digits digits ≡ true → Reads digits (digits_value 10 digits) (pos 0)
reads_digits digits are = let number = digits_are digits are in record {
  form = number.form;
  mantissa = number.mantissa;
  exponent = number.exponent;
}

digit_no_point : (b : ℕ) → is_digit b ≡ true → not (is_point b) ≡ true
digit_no_point b is = grind (arith, nat_tests)

digit_no_mark : (b : ℕ) → is_digit b ≡ true → not (is_exponent_mark b) ≡ true
digit_no_mark b is = grind (arith, nat_tests)

-- the parts before and after the first exponent mark, and of those before it around the first point
mantissa_by : (text front whole fraction : List ℕ) → before_first is_exponent_mark text ≡ front → before_first is_point front
    ≡ whole → after_first is_point front ≡ fraction
    → mantissa_of text ≡ digits_value 10 (whole ++ fraction)
unfolding mantissa_of
mantissa_by text front whole fraction before whole-is fraction-is =
    ap (λ (t : List ℕ). digits_value 10 (before_first is_point t ++ after_first is_point t)) before
    ∙ ap (λ (t : List ℕ). digits_value 10 (t ++ after_first is_point front)) whole-is
    ∙ ap (λ (t : List ℕ). digits_value 10 (whole ++ t)) fraction-is

exponent_by : (text front following fraction : List ℕ) → before_first is_exponent_mark text ≡ front → after_first is_exponent_mark
    text
    ≡ following → after_first is_point front ≡ fraction
    → exponent_of text ≡ (signed_digits_value 10 following -ℤ pos (length fraction))
unfolding exponent_of
exponent_by text front following fraction before after fraction-is =
    ap (λ (t : List ℕ). signed_digits_value 10 t -ℤ pos (length (after_first is_point (before_first is_exponent_mark text)))) after
    ∙ ap (λ (t : List ℕ). signed_digits_value 10 following -ℤ pos (length (after_first is_point t))) before
    ∙ ap (λ (t : List ℕ). signed_digits_value 10 following -ℤ pos (length t)) fraction-is

-- digits around a point
reads_pointed : (whole fraction : List ℕ) → list_all is_digit whole ≡ true → list_all is_digit fraction ≡ true → 0 < length whole
    → Reads (whole ++ (point ∷ fraction)) (digits_value 10 (whole ++ fraction)) (pos 0 -ℤ pos (length fraction))
reads_pointed whole fraction w f some =
    let text = whole ++ (point ∷ fraction) in
    let is : IsMantissa text = (whole, fraction, w, f, omega (arith, some), inl refl) in
    let unmarked = all_weaker is_mantissa_byte (λ b. not (is_exponent_mark b)) text mantissa_no_mark (mantissa_bytes text is) in
    let outer = halves_none is_exponent_mark text unmarked in
    let inner = halves_some is_point whole point fraction (all_weaker is_digit (λ b. not (is_point b)) whole digit_no_point w)
    refl in
    record {
      form = number_test text (text, [], sym (append-nil text), is, tt);
      mantissa = mantissa_by text text whole fraction outer.before inner.before inner.after;
      exponent = exponent_by text text [] fraction outer.before outer.after inner.after;
    }
  where
    mantissa_no_mark : (b : ℕ) → is_mantissa_byte b ≡ true → not (is_exponent_mark b) ≡ true
    mantissa_no_mark b h = grind (arith, nat_tests)

-- digits, and an exponent after them
reads_powered : (digits sign power : List ℕ) → is_digits digits ≡ true → IsExponent (69 ∷ (sign ++ power))
    → Reads (digits ++ (69 ∷ (sign ++ power))) (digits_value 10 digits) (signed_digits_value 10 (sign ++ power) -ℤ pos 0)
reads_powered digits sign power are is =
    let text = digits ++ (69 ∷ (sign ++ power)) in
    let d = digits_parts digits are in
    let outer = halves_some is_exponent_mark digits 69 (sign ++ power) (all_weaker is_digit (λ b. not (is_exponent_mark b)) digits
    digit_no_mark d.1) refl in
    let inner = halves_none is_point digits (all_weaker is_digit (λ b. not (is_point b)) digits digit_no_point d.1) in
    record {
      form = number_test text (
        digits,
        69 ∷ (sign ++ power),
        refl,
        (digits, [], d.1, refl, omega (arith, d.0), inr (refl, refl)),
        is,
      );
      mantissa = mantissa_by text digits digits [] outer.before inner.before inner.after ∙ ap (digits_value 10) (append-nil digits);
      exponent = exponent_by text digits (sign ++ power) [] outer.before outer.after inner.after;
    }

-- ---- zeros

zeros_all : (count : ℕ) → list_all is_digit (zeros count) ≡ true
zeros_all zero = refl
zeros_all (suc count) = zeros_all count

-- in front of digits they count nothing
zeros_before : (count : ℕ) (digits : List ℕ) → digits_value 10 (zeros count ++ digits) ≡ digits_value 10 digits
zeros_before zero digits = refl
zeros_before (suc count) digits = zeros_before count digits

one_zero : (m count : ℕ) → (m * 10 + 0) * 10 ^ count ≡ m * 10 ^ suc count
one_zero m count =
    let one : m * 10 + 0 ≡ m * 10 ^ 1 = omega arith in
    let next : 1 + count ≡ suc count = omega arith in
    ap (λ (n : ℕ). n * 10 ^ count) one ∙ sym (tens_apart m 1 count) ∙ ap (λ (n : ℕ). m * 10 ^ n) next

zeros_after : (m count : ℕ) → digits_value_after 10 m (zeros count) ≡ m * 10 ^ count
zeros_after m zero = sym (tens_none m)
zeros_after m (suc count) = zeros_after (m * 10 + 0) count ∙ one_zero m count

-- ---- the three forms

-- digits, and zeros after them
reads_whole : (n count : ℕ) → n < 10 ^ 64 → Reads (decimal n ++ zeros count) (n * 10 ^ count) (pos 0)
reads_whole n count short =
    let text = decimal n ++ zeros count in
    let many : length text ≡ length (decimal n) + length (zeros count) = length-append (decimal n) (zeros count) in
    let some : 0 < length text = omega (arith, many, some_decimal n short) in
    let value : digits_value 10 text ≡ n * 10 ^ count =
    value_append 0 (decimal n) (zeros count) ∙ ap (λ (m : ℕ). digits_value_after 10 m (zeros count)) (value_decimal n short)
    ∙ zeros_after n count in
    let number = reads_digits text (digits_from_all text some (all_append is_digit (decimal n) (zeros count) (all_decimal n short)
    (zeros_all count))) in
    record { form = number.form; mantissa = number.mantissa ∙ value; exponent = number.exponent }

all_parts : (front back : List ℕ) → list_all is_digit (front ++ back) ≡ true → (list_all is_digit front ≡ true)
    × (list_all is_digit back ≡ true)
all_parts [] back all = (refl, all)
all_parts (b ∷ front) back all =
    let first = and_parts (is_digit b) (list_all is_digit (front ++ back)) all in
    let rest = all_parts front back first.1 in
    (and_from _ _ first.0 rest.0, rest.1)

-- a point before the last digits
reads_fraction : (following : ℕ) (digits : List ℕ) → list_all is_digit digits ≡ true → following < length digits
    → Reads (point_before_last following digits) (digits_value 10 digits) (pos 0 -ℤ pos following)
reads_fraction following digits all more =
    let at = length digits - following in
    let front = take at digits in
    let back = drop at digits in
    let whole : front ++ back ≡ digits = take-append-drop at digits in
    let parts = all_parts front back (subst (λ (t : List ℕ). list_all is_digit t ≡ true) (sym whole) all) in
    let many : length back ≡ following = length-drop at digits ∙ left (length digits) following more in
    let some : 0 < length front = first_some (length front) (length back) (length digits) following (sym (length-append front back)
    ∙ ap length whole) many more in
    let number = reads_pointed front back parts.0 parts.1 some in
    record {
      form = number.form;
      mantissa = number.mantissa ∙ ap (digits_value 10) whole;
      exponent = number.exponent
          ∙ ap (λ (n : ℕ). pos 0 -ℤ pos n) many;
    }
  where
    left : (n following : ℕ) → following < n → n - (n - following) ≡ following
    left n following more = omega (arith, more)

    first_some : (f b n following : ℕ) → f + b ≡ n → b ≡ following → following < n → 0 < f
    first_some f b n following sum same more = omega (arith, sum, same, more)

reads_filled : (n following : ℕ) → n < 10 ^ 64 → Reads (point_before_last following (filled following (decimal n))) n (pos 0 -ℤ pos
    following)
reads_filled n following short =
    let count = following + 1 - length (decimal n) in
    let all = all_append is_digit (zeros count) (decimal n) (zeros_all count) (all_decimal n short) in
    let many : length (filled following (decimal n)) ≡ count + length (decimal n) = length-append (zeros count) (decimal n)
    ∙ ap (λ k. k + length (decimal n)) (length-replicate count 48) in
    let number = reads_fraction following (filled following (decimal n)) all (enough following (length (decimal n))
    (length (filled following (decimal n))) many) in
    record {
      form = number.form;
      mantissa = number.mantissa ∙ zeros_before count (decimal n) ∙ value_decimal n short;
      exponent = number.exponent;
    }
  where
    enough : (following n whole : ℕ) → whole ≡ following + 1 - n + n → following < whole
    enough following n whole same = omega (arith, same)

-- a sign and digits
signed_plain : (digits : List ℕ) → is_digits digits ≡ true → signed_digits_value 10 digits ≡ pos (digits_value 10 digits)
signed_plain [] are = absurd cc
signed_plain (c ∷ digits) are = let first = (and_parts (is_digit c) (list_all is_digit digits) are).0 in
    rw (no_minus c first, no_plus c first) refl
  where
    no_minus : (c : ℕ) → is_digit c ≡ true → (c == 45) ≡ false
    no_minus c is = grind (arith, nat_tests)

    no_plus : (c : ℕ) → is_digit c ≡ true → (c == 43) ≡ false
    no_plus c is = grind (arith, nat_tests)

less_none : (e : ℤ) → (e -ℤ pos 0) ≡ e
less_none e = omega (arith, ints)

-- an exponent as it is printed
abbrev IsShortExponent : ℤ → Type 0
IsShortExponent (pos k) = k < 10 ^ 64
IsShortExponent (negsuc k) = suc k < 10 ^ 64

reads_exponent : (n : ℕ) (e : ℤ) → n < 10 ^ 64 → IsShortExponent e → Reads (with_exponent (decimal n) e) n e
reads_exponent n (pos k) short near =
    let number = reads_powered (decimal n) [] (decimal k) (digits_decimal n short) (
      refl,
      [],
      decimal k,
      refl,
      tt,
      some_decimal k near,
      all_decimal k near,
    ) in
    let value : signed_digits_value 10 (decimal k) ≡ pos k = signed_plain (decimal k) (digits_decimal k near)
    ∙ ap pos (value_decimal k near) in
    record {
      form = number.form;
      mantissa = number.mantissa ∙ value_decimal n short;
      exponent = number.exponent
          ∙ less_none (signed_digits_value 10 (decimal k)) ∙ value;
    }
reads_exponent n (negsuc k) short near =
    let number = reads_powered (decimal n) (45 ∷ []) (decimal (suc k)) (digits_decimal n short) (
      refl,
      45 ∷ [],
      decimal (suc k),
      refl,
      refl,
      some_decimal (suc k) near,
      all_decimal (suc k) near,
    ) in
    let value : signed_digits_value 10 (45 ∷ decimal (suc k)) ≡ negsuc k =
    ap (λ (m : ℕ). neg_ℤ (pos m)) (value_decimal (suc k) near) in
    record {
      form = number.form;
      mantissa = number.mantissa ∙ value_decimal n short;
      exponent = number.exponent
          ∙ less_none (signed_digits_value 10 (45 ∷ decimal (suc k))) ∙ value;
    }

-- ---- decimals

-- the bounds of a decimal, also of zero
short_mantissa : (d : Decimal) → IsDecimal d → d.mantissa < 10 ^ 64
short_mantissa d is = elim (cases_eq d.mantissa 0) [
  | inl none ↦ omega (arith, none)
  | inr some ↦ (let bounds = bounds_of d.negative d.mantissa d.exponent some is.fits in omega (arith, bounds.digits))
]

near : (negative : Bool) (mantissa : ℕ) (exponent : ℤ) → IsTrue (decimal_fits negative mantissa exponent)
    → ((pos 0 -ℤ pos 400) ≤ℤ exponent) × (exponent ≤ℤ pos 400)
unfolding decimal_fits
near negative mantissa exponent fits = elim (cases_eq mantissa 0) [
  | inl none ↦
      let parts : (not negative && int_eq exponent (pos 0)) ≡ true = rw (eq-eqb mantissa 0 none) at fits in
      let at_zero : exponent ≡ pos 0 = (Decides-int_eq exponent (pos 0)).0 (and_parts (not negative) (int_eq exponent (pos 0))
      parts).1 in
      (omega (arith, ints, at_zero), omega (arith, ints, at_zero))
  | inr some ↦ (let bounds = bounds_of negative mantissa exponent some fits in (bounds.least, bounds.greatest))
]

short_exponent : (exponent : ℤ) → (pos 0 -ℤ pos 400) ≤ℤ exponent → exponent ≤ℤ pos 400 → IsShortExponent exponent
short_exponent (pos k) least most = omega (arith, ints, most)
short_exponent (negsuc k) least most = omega (arith, ints, least)

spells : (text : List ℕ) (d : Decimal) (m : ℕ) (e : ℤ) → IsDecimal d → Reads text m e → HasValue d.negative m e d
    → SpellsDecimal d.negative text d
spells text d m e is number value = record {
  form = number.form;
  is = record {
    fits = is.fits;
    value = subst (λ (k : ℕ). HasValue d.negative k (exponent_of text) d) (sym number.mantissa)
        (subst (λ (z : ℤ). HasValue d.negative m z d) (sym number.exponent) value);
  };
}

either : (P : List ℕ → Type 0) (b : Bool) (x y : List ℕ) → P x → P y → P (cond b x y)
either P true x y p q = p
either P false x y p q = q

same_value : (d : Decimal) (e : ℤ) → d.exponent ≡ e → HasValue d.negative d.mantissa e d
same_value d e at = inr (0, sym (tens_none d.mantissa), at ∙ added_none e, refl)
  where
    added_none : (e : ℤ) → e ≡ (e +ℤ pos 0)
    added_none e = omega (arith, ints)

magnitude_at : (d : Decimal) (e : ℤ) → d.exponent ≡ e → IsDecimal d → IsShortExponent e
    → SpellsDecimal d.negative (magnitude_text (decimal d.mantissa) e) d
unfolding magnitude_text
magnitude_at d (pos count) at is small =
    let short = short_mantissa d is in
    let digits = decimal d.mantissa in
    either (λ (text : List ℕ). SpellsDecimal d.negative text d) (nat_le (length digits + count) plain_digits)
    (digits ++ zeros count) (with_exponent digits (pos count))
    (spells (digits ++ zeros count) d (d.mantissa * 10 ^ count) (pos 0) is (reads_whole d.mantissa count short)
    (inr (count, refl, at ∙ none_added count, refl)))
    (spells (with_exponent digits (pos count)) d d.mantissa (pos count) is (reads_exponent d.mantissa (pos count) short small)
    (same_value d (pos count) at))
  where
    none_added : (count : ℕ) → pos count ≡ (pos 0 +ℤ pos count)
    none_added count = omega (arith, ints)
magnitude_at d (negsuc k) at is small =
    let short = short_mantissa d is in
    let digits = decimal d.mantissa in
    either (λ (text : List ℕ). SpellsDecimal d.negative text d) (nat_le (suc k) plain_digits && nat_le (length digits)
    (plain_digits + suc k)) (point_before_last (suc k) (filled (suc k) digits)) (with_exponent digits (negsuc k))
    (spells (point_before_last (suc k) (filled (suc k) digits)) d d.mantissa (pos 0 -ℤ pos (suc k)) is
    (reads_filled d.mantissa (suc k) short) (same_value d (pos 0 -ℤ pos (suc k)) (at ∙ below k)))
    (spells (with_exponent digits (negsuc k)) d d.mantissa (negsuc k) is (reads_exponent d.mantissa (negsuc k) short small)
    (same_value d (negsuc k) at))
  where
    below : (k : ℕ) → negsuc k ≡ (pos 0 -ℤ pos (suc k))
    below k = omega (arith, ints)

pub magnitude_spells : (d : Decimal) → IsDecimal d → SpellsDecimal d.negative (magnitude_text (decimal d.mantissa) d.exponent) d
magnitude_spells d is =
    let bounds = near d.negative d.mantissa d.exponent is.fits in
    magnitude_at d d.exponent refl is (short_exponent d.exponent bounds.0 bounds.1)
