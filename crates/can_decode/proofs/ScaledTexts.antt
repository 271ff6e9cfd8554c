-- The text of a scaled value is a decimal of it, with nothing superfluous in it.
use Rattle.std.proofs.Common.{◌≡◌, ◌≢◌, ℕ, ℤ, pos, zero, suc, ◌+◌, ◌-◌, ◌*◌, ◌/◌, ◌%◌, ◌^◌, ◌<◌, ◌≤◌, List, [], ◌∷◌, ◌++◌, length}
use Rattle.std.proofs.Common.{take, drop, get_or, refl, sym, ap, subst, ◌∙◌, add-one, inl, inr, arith}
use Rattle.std.specs.Prelude.{◌+ℤ◌, ◌*ℤ◌, unsigned_abs, int_lt, decimal}
use Rattle.std.specs.Str.Parse.{AllDigits, IsNumeral, digits_value, digits_value_after}
use Rattle.std.proofs.lemmas.Bool.{cases_eq, cases_lt, eq-eqb, ne_eqb}
use Rattle.std.proofs.lemmas.Fmt.{decimal_is_IsNumeral_wide, decimal_by_steps_wide}
use Rattle.std.proofs.lemmas.Int.{ints}
use Rattle.std.proofs.lemmas.Int.Digits.{digits_value_push}
use Rattle.std.proofs.lemmas.List.{append_assoc, append-nil, get_or_append_left, length-append, length-drop, length-replicate}
use Rattle.std.proofs.lemmas.List.{length-take-le, nil_from_length, take-append-drop}
use Rattle.std.proofs.lemmas.Nat.{div-add-mod'}
use Rattle.dbc_records.specs.Layout.{zeros, filled, point_before_last, sign_text}
use Rattle.dbc_values.specs.Scales.{Scale, IsScale}
use Rattle.dbc_values.proofs.DigitTexts.{value_append}
use Rattle.dbc_values.proofs.Powers.{tens_more}
use Rattle.dbc_values.proofs.Scaling.{product_below}
use Rattle.can_decode.specs.ScaledTexts.{after_point, IsScaledText}
use Rattle.can_decode.specs.Values.{Fixed, fewest_places, fixed_text, sign_of, scaled_text, scaled}
use Rattle.can_decode.proofs.DigitTexts.{all_append, all_front, all_following, NoZeroFirst}

-- ---- the fewest decimal places

record IsFewest (digits places : ℕ) (fixed : Fixed) : Type 0 where
  same : fixed.digits * 10 ^ places ≡ digits * 10 ^ fixed.places
  last : fixed.places ≢ 0 → fixed.digits % 10 ≢ 0
  less : fixed.digits ≤ digits

fewest : (digits places : ℕ) → IsFewest digits places (fewest_places digits places)
fewest digits zero = record { same = refl; last = λ some. absurd (some refl); less = omega arith }
fewest digits (suc places) = elim (cases_eq (digits % 10) 0) [
  | inl at_zero ↦
      let front : digits ≡ digits / 10 * 10 = omega (arith, div-add-mod' digits 10, at_zero) in
      let r : IsFewest (digits / 10) places (fewest_places (digits / 10) places) = fewest (digits / 10) places in
      let fixed : Fixed = fewest_places (digits / 10) places in
      let more : fixed.digits * 10 ^ places * 10 ≡ fixed.digits * 10 ^ suc places = tens_more fixed.digits places
      ∙ ap (λ (k : ℕ). fixed.digits * 10 ^ k) (add-one places) in
      let turned : digits / 10 * 10 ^ fixed.places * 10 ≡ digits / 10 * 10 * 10 ^ fixed.places = omega arith in
      rw (eq-eqb (digits % 10) 0 at_zero) (record {
        same = sym more ∙ ap (λ (k : ℕ). k * 10) r.same ∙ turned ∙ ap (λ (k : ℕ). k * 10 ^ fixed.places) (sym front);
        last = r.last;
        less = omega (arith, r.less);
      })
  | inr some ↦ rw (ne_eqb (digits % 10) 0 some) (record { same = refl; last = λ _. some; less = omega arith })
]

-- ---- the digits of a number

first_above_zero : (n : ℕ) → n < 10 ^ 64 → (0 < length (decimal n)) × (0 < n → 48 < get_or (decimal n) 0 0)
    × (n ≡ 0 → length (decimal n) ≡ 1)
first_above_zero = decimal_by_steps_wide (λ m ds. (0 < length ds) × (0 < m → 48 < get_or ds 0 0) × (m ≡ 0 → length ds ≡ 1))
    (λ m less. (omega arith, λ some. omega arith, λ none. refl))
    (λ m ds least h. (
      omega (arith, length-append ds ((48 + m % 10) ∷ [])),
      λ some. omega (arith, get_or_append_left ds ((48 + m % 10) ∷ []) 0 0 h.0, h.1 (omega arith)),
      λ none. absurd (omega arith),
    ))

no_zero_first : (n : ℕ) → n < 10 ^ 64 → NoZeroFirst (decimal n)
no_zero_first n small rest is =
    let h = first_above_zero n small in
    let first : get_or (decimal n) 0 0 ≡ 48 = ap (λ (ds : List ℕ). get_or ds 0 0) is in
    let count : length (decimal n) ≡ suc (length rest) = ap (λ (ds : List ℕ). length ds) is in
    elim (cases_eq n 0) [
      | inl none ↦ nil_from_length rest (omega (arith, h.2 none, count))
      | inr some ↦ absurd (omega (arith, h.1 (omega arith), first))
    ]

-- ---- zeros in front

zeros_all : (count : ℕ) → AllDigits 10 (zeros count)
zeros_all zero = tt
zeros_all (suc count) = (omega arith, zeros_all count)

pub zeros_value : (count : ℕ) → digits_value 10 (zeros count) ≡ 0
zeros_value zero = refl
zeros_value (suc count) = zeros_value count

-- ---- the parts of a text without its sign

record IsSplit (digits places : ℕ) (text : List ℕ) : Type 0 where
  whole : List ℕ
  fraction : List ℕ
  is : text ≡ whole ++ after_point fraction
  numeral : IsNumeral 10 whole
  all : AllDigits 10 fraction
  value : digits_value 10 (whole ++ fraction) ≡ digits
  count : length fraction ≡ places
  first : NoZeroFirst whole

no_point : (digits : ℕ) → digits < 10 ^ 64 → IsSplit digits 0 (decimal digits)
no_point digits small =
    let h = decimal_is_IsNumeral_wide digits small in
    record {
      whole = decimal digits;
      fraction = [];
      is = sym (append-nil (decimal digits));
      numeral = h.0;
      all = tt;
      value = ap (digits_value 10) (append-nil (decimal digits)) ∙ h.1;
      count = refl;
      first = no_zero_first digits small;
    }

with_point : (front fraction : List ℕ) → 0 < length fraction → front ++ (46 ∷ fraction) ≡ front ++ after_point fraction
with_point front [] some = absurd (omega arith)
with_point front (d ∷ ds) some = refl

at_point : (digits places : ℕ) → digits < 10 ^ 64 → 0 < places
    → IsSplit digits places (point_before_last places (filled places (decimal digits)))
at_point digits places small some =
    let h = decimal_is_IsNumeral_wide digits small in
    let ds : List ℕ = decimal digits in
    let n : ℕ = places + 1 - length ds in
    let padded : List ℕ = zeros n ++ ds in
    let many : length (zeros n ++ ds) ≡ n + length ds = length-append (zeros n) ds
    ∙ ap (λ (k : ℕ). k + length ds) (length-replicate n 48) in
    let k : ℕ = length padded - places in
    let joined : take k padded ++ drop k padded ≡ padded = take-append-drop k padded in
    let whole-count : length (take k padded) ≡ k = length-take-le k padded (omega arith) in
    let count : length (drop k padded) ≡ places = length-drop k padded ∙ omega (arith, many) in
    let all : AllDigits 10 padded = all_append (zeros n) ds (zeros_all n) h.0.1 in
    let both : AllDigits 10 (take k padded ++ drop k padded) = subst (AllDigits 10) (sym joined) all in
    let value : digits_value 10 padded ≡ digits = value_append 0 (zeros n) ds ∙ ap (λ (m : ℕ). digits_value_after 10 m ds)
    (zeros_value n) ∙ h.1 in
    record {
      whole = take k padded;
      fraction = drop k padded;
      is = with_point (take k padded) (drop k padded) (omega (arith, count, some));
      numeral = (omega (arith, whole-count, many), all_front (take k padded) (drop k padded) both);
      all = all_following (take k padded) (drop k padded) both;
      value = ap (digits_value 10) joined ∙ value;
      count = count;
      first = λ rest is. elim (cases_lt places (length ds)) [
        | inl long ↦
            let none : n ≡ 0 = omega (arith, long) in
            let same : padded ≡ ds = ap (λ (m : ℕ). zeros m ++ ds) none in
            let digits-are : ds ≡ 48 ∷ (rest ++ drop k padded) = sym same ∙ sym joined ∙ ap (λ (xs : List ℕ). xs ++ drop k padded)
            is in
            let nothing : length (rest ++ drop k padded) ≡ 0 =
            ap (λ (xs : List ℕ). length xs) (no_zero_first digits small (rest ++ drop k padded) digits-are) in
            absurd (omega (arith, nothing, length-append rest (drop k padded), count, some))
        | inr short ↦
            let one : suc (length rest) ≡ k = sym (ap (λ (xs : List ℕ). length xs) is) ∙ whole-count in
            nil_from_length rest (omega (arith, one, many, short))
      ];
    }

split : (fixed : Fixed) → fixed.digits < 10 ^ 64 → IsSplit fixed.digits fixed.places (fixed_text fixed)
unfolding fixed_text
split fixed small = elim (cases_eq fixed.places 0) [
  | inl none ↦ rw (eq-eqb fixed.places 0 none) (subst (λ (places : ℕ). IsSplit fixed.digits places (decimal fixed.digits))
      (sym none) (no_point fixed.digits small))
  | inr some ↦ rw (ne_eqb fixed.places 0 some) (at_point fixed.digits fixed.places small (omega (arith, some)))
]

-- a zero at the end after the point would be one at the end of the digits
ends_so : (digits places : ℕ) (whole fraction front : List ℕ) → digits_value 10 (whole ++ fraction) ≡ digits
    → length fraction ≡ places
    → (places ≢ 0 → digits % 10 ≢ 0) → fraction ≡ front ++ (48 ∷ []) → ⊥
ends_so digits places whole fraction front value count last is =
    let joined : whole ++ fraction ≡ (whole ++ front) ++ (48 ∷ []) = ap (λ (xs : List ℕ). whole ++ xs) is
    ∙ sym (append_assoc whole front (48 ∷ [])) in
    let digits-are : digits ≡ digits_value 10 (whole ++ front) * 10 + 0 = sym value ∙ ap (digits_value 10) joined
    ∙ digits_value_push 10 (whole ++ front) 48 in
    let long : length fraction ≡ length front + 1 = ap (λ (xs : List ℕ). length xs) is ∙ length-append front (48 ∷ []) in
    last (λ none. absurd (omega (arith, long, count, none))) (omega (arith, digits-are))

pub scaled_text_is : (value : ℤ) (places : ℕ) → unsigned_abs value < 10 ^ 64 → IsScaledText value places (scaled_text value places)
unfolding scaled_text sign_text
scaled_text_is value places small =
    let fixed : Fixed = fewest_places (unsigned_abs value) places in
    let f : IsFewest (unsigned_abs value) places (fewest_places (unsigned_abs value) places) = fewest (unsigned_abs value) places in
    let s : IsSplit fixed.digits fixed.places (fixed_text fixed) = split fixed (omega (arith, f.less, small)) in
    record {
      plain = record { negative = int_lt value (pos 0); whole = s.whole; fraction = s.fraction };
      parts = record { is = ap (λ (text : List ℕ). sign_of value ++ text) s.is; whole = s.numeral; fraction = s.all };
      reads = record {
        sign = refl;
        number = ap (λ (n : ℕ). n * 10 ^ places) s.value ∙ f.same ∙ ap (λ (n : ℕ). unsigned_abs value * 10 ^ n) (sym s.count);
      };
      shortest = record {
        first = s.first;
        last = λ front is. ends_so fixed.digits fixed.places s.whole s.fraction front s.value
            s.count f.last is;
      };
    }

-- ---- the values of a scale

sum_below : (a b : ℤ) → unsigned_abs (a +ℤ b) ≤ unsigned_abs a + unsigned_abs b
sum_below a b = grind (arith, ints)

pub scaled_text_of_scale : (scale : Scale) (raw : ℤ) → IsScale scale → unsigned_abs raw ≤ 2 ^ scale.length
    → IsScaledText (scaled scale raw) scale.places (scaled_text (scaled scale raw) scale.places)
scaled_text_of_scale scale raw is small =
    scaled_text_is (scaled scale raw) scale.places
    (omega (
      arith,
      product_below scale.factor scale.offset raw scale.length is.reach small,
      sum_below (scale.factor *ℤ raw) scale.offset,
    ))
