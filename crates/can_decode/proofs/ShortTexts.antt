-- The text of a number of at most eight digits over a power of ten, by parts of its eight digits.
use Rattle.std.proofs.Common.{◌≡◌, ℕ, pos, suc, ◌+◌, ◌-◌, ◌*◌, ◌/◌, ◌%◌, ◌^◌, ◌<◌, ◌≤◌, ◌==◌, min, false, if◌then◌else◌}
use Rattle.std.proofs.Common.{List, [], ◌∷◌, ◌++◌, length, take, drop, get_or, refl, sym, ap, subst, ◌∙◌, inl, inr, arith}
use Rattle.std.specs.Char.{digit_value}
use Rattle.std.specs.Str.Parse.{AllDigits, digits_value, digits_value_after}
use Rattle.std.proofs.lemmas.Bool.{cases_lt, eq-eqb, ne_eqb, lt-ltb, le-ltb}
use Rattle.std.proofs.lemmas.List.{append_assoc, take-append-drop, take-take, take-replicate, drop-drop, drop-replicate}
use Rattle.std.proofs.lemmas.List.{length-append, length-take-le, length-drop, length-replicate, get_or-drop, get_or-take}
use Rattle.std.proofs.lemmas.List.{get_or-append-add, nil_from_length}
use Rattle.dbc_records.specs.Layout.{zeros, sign_text}
use Rattle.dbc_values.proofs.DigitTexts.{value_append}
use Rattle.std.proofs.lemmas.Nat.{pow-add}
use Rattle.dbc_text_buffer.specs.EightDigits.{eight_digits, StartsWithZeros, EndsInZeros}
use Rattle.can_decode.specs.ScaledTexts.{after_point, IsScaledText}
use Rattle.can_decode.specs.Values.{fewest_places, fixed_text, sign_of, scaled_text}
use Rattle.can_decode.proofs.DigitTexts.{all_front, all_following, value_of_both}
use Rattle.can_decode.proofs.OneText.{one_text}
use Rattle.can_decode.proofs.Pushing.{pushed_then}
use Rattle.can_decode.proofs.ScaledTexts.{scaled_text_is, zeros_value}

-- ---- the eight digits

digit_of : (d : ℕ) → d < 10 → digit_value (48 + d) ≡ d
digit_of d small = rw (le-ltb (48 + d) 48 (omega arith), lt-ltb (48 + d) 58 (omega (arith, small))) (omega arith)

digit_small : (d : ℕ) → d < 10 → digit_value (48 + d) < 10
digit_small d small = omega (arith, digit_of d small, small)

are_digits : (n : ℕ) → n < 10 ^ 8 → AllDigits 10 (eight_digits n)
are_digits n small = (
  digit_small (n / 10000000) (omega (arith, small)),
  (
    digit_small (n / 1000000 % 10) (omega arith),
    (
      digit_small (n / 100000 % 10) (omega arith),
      (
        digit_small (n / 10000 % 10) (omega arith),
        (
          digit_small (n / 1000 % 10) (omega arith),
          (
            digit_small (n / 100 % 10) (omega arith),
            (digit_small (n / 10 % 10) (omega arith), (digit_small (n % 10) (omega arith), tt)),
          ),
        ),
      ),
    ),
  ),
)

value_is : (n : ℕ) → n < 10 ^ 8 → digits_value 10 (eight_digits n) ≡ n
value_is n small = omega (
  arith,
  digit_of (n / 10000000) (omega (arith, small)),
  digit_of (n / 1000000 % 10) (omega arith),
  digit_of (n / 100000 % 10) (omega arith),
  digit_of (n / 10000 % 10) (omega arith),
  digit_of (n / 1000 % 10) (omega arith),
  digit_of (n / 100 % 10) (omega arith),
  digit_of (n / 10 % 10) (omega arith),
  digit_of (n % 10) (omega arith),
)

-- ---- parts of them

-- the parts of eight digits that are written, and the zeros before and after them that aren't
record IsCut (digits : List ℕ) (places first last : ℕ) : Type 0 where
  few : places < 8
  front : first ≤ 7 - places
  back : last ≤ places
  count : length digits ≡ 8
  zeros_first : take first digits ≡ zeros first
  zeros_last : drop (8 - last) digits ≡ zeros last
  first_digit : first < 7 - places → 48 < get_or digits first 0
  last_digit : last < places → 48 < get_or digits (7 - last) 0

whole : List ℕ → ℕ → ℕ → List ℕ
whole digits places first = take (8 - places - first) (drop first digits)

fraction : List ℕ → ℕ → ℕ → List ℕ
fraction digits places last = take (places - last) (drop (7 - places + 1) digits)

module _ {digits : List ℕ} {places first last : ℕ} (cut : IsCut digits places first last) where
  after : drop (7 - places + 1) digits ≡ fraction digits places last ++ zeros last
  unfolding fraction
  after =
      let index : 7 - places + 1 + (places - last) ≡ 8 - last = omega (arith, cut.few, cut.back) in
      let rest : drop (places - last) (drop (7 - places + 1) digits) ≡ zeros last =
      drop-drop (places - last) (7 - places + 1) digits ∙ ap (λ (k : ℕ). drop k digits) (omega (arith, index)) ∙ cut.zeros_last in
      sym (take-append-drop (places - last) (drop (7 - places + 1) digits))
      ∙ ap (λ (ds : List ℕ). fraction digits places last ++ ds) rest

  parts : digits ≡ zeros first ++ (whole digits places first ++ (fraction digits places last ++ zeros last))
  unfolding whole
  parts =
      let index : first + (8 - places - first) ≡ 7 - places + 1 = omega (arith, cut.few, cut.front) in
      let rest : drop (8 - places - first) (drop first digits) ≡ fraction digits places last ++ zeros last =
      drop-drop (8 - places - first) first digits ∙ ap (λ (k : ℕ). drop k digits) (omega (arith, index)) ∙ after in
      sym (take-append-drop first digits)
      ∙ ap (λ (ds : List ℕ). ds ++ drop first digits) cut.zeros_first
      ∙ ap (λ (ds : List ℕ). zeros first ++ ds) (sym (take-append-drop (8 - places - first) (drop first digits))
      ∙ ap (λ (ds : List ℕ). whole digits places first ++ ds) rest)

  whole_count : length (whole digits places first) ≡ 8 - places - first
  unfolding whole
  whole_count = length-take-le (8 - places - first) (drop first digits) (omega (
    arith,
    length-drop first digits,
    cut.count,
    cut.few,
    cut.front,
  ))

  fraction_count : length (fraction digits places last) ≡ places - last
  unfolding fraction
  fraction_count = length-take-le (places - last) (drop (7 - places + 1) digits) (omega (
    arith,
    length-drop (7 - places + 1) digits,
    cut.count,
    cut.few,
  ))

  whole_first : first < 7 - places → get_or (whole digits places first) 0 0 ≡ get_or digits first 0
  unfolding whole
  whole_first more =
      let same : first + 0 ≡ first = omega arith in
      get_or-take (8 - places - first) (drop first digits) 0 0 (omega (arith, more)) ∙ get_or-drop first digits 0 0
      ∙ ap (λ (k : ℕ). get_or digits k 0) same

  first_is_none : (rest : List ℕ) → whole digits places first ≡ 48 ∷ rest → rest ≡ []
  first_is_none rest is =
      let long : suc (length rest) ≡ 8 - places - first = sym (ap (λ (ds : List ℕ). length ds) is) ∙ whole_count in
      elim (cases_lt first (7 - places)) [
        | inl more ↦
            let zero-there : get_or (whole digits places first) 0 0 ≡ 48 = ap (λ (ds : List ℕ). get_or ds 0 0) is in
            absurd (omega (arith, cut.first_digit more, whole_first more, zero-there))
        | inr none ↦ nil_from_length rest (omega (arith, long, none, cut.front, cut.few))
      ]

  fraction_last : last < places → get_or (fraction digits places last) (places - last - 1) 0 ≡ get_or digits (7 - last) 0
  unfolding fraction
  fraction_last some =
      let same : 7 - places + 1 + (places - last - 1) ≡ 7 - last = omega (arith, some, cut.few) in
      get_or-take (places - last) (drop (7 - places + 1) digits) (places - last - 1) 0 (omega (arith, some))
      ∙ get_or-drop (7 - places + 1) digits (places - last - 1) 0
      ∙ ap (λ (k : ℕ). get_or digits k 0) same

  last_is_none : (front : List ℕ) → fraction digits places last ≡ front ++ (48 ∷ []) → ⊥
  last_is_none front is =
      let long : length front + 1 ≡ places - last = sym (length-append front (48 ∷ [])) ∙ sym (ap (λ (ds : List ℕ). length ds) is)
      ∙ fraction_count in
      let some : last < places = omega (arith, long) in
      let at : places - last - 1 ≡ length front + 0 = omega (arith, long) in
      let zero-there : get_or (fraction digits places last) (places - last - 1) 0 ≡ 48 =
      ap (λ (k : ℕ). get_or (fraction digits places last) k 0) at
      ∙ ap (λ (ds : List ℕ). get_or ds (length front + 0) 0) is
      ∙ get_or-append-add front (48 ∷ []) 0 0 in
      omega (arith, cut.last_digit some, fraction_last some, zero-there)

  -- the digits that are written, as one number
  value_of_written : digits_value 10 digits ≡ digits_value 10 (whole digits places first ++ fraction digits places last) * 10 ^ last
  value_of_written =
      let w : List ℕ = whole digits places first in
      let f : List ℕ = fraction digits places last in
      let joined : w ++ (f ++ zeros last) ≡ (w ++ f) ++ zeros last = sym (append_assoc w f (zeros last)) in
      let none_before : digits_value 10 (zeros first ++ (w ++ (f ++ zeros last))) ≡ digits_value 10 (w ++ (f ++ zeros last)) =
      value_append 0 (zeros first) (w ++ (f ++ zeros last))
      ∙ ap (λ (m : ℕ). digits_value_after 10 m (w ++ (f ++ zeros last))) (zeros_value first) in
      let both : digits_value 10 ((w ++ f) ++ zeros last) ≡ digits_value 10 (w ++ f) * 10 ^ length (zeros last) + digits_value 10
      (zeros last) = value_of_both (w ++ f) (zeros last) in
      let count : digits_value 10 (w ++ f) * 10 ^ length (zeros last) ≡ digits_value 10 (w ++ f) * 10 ^ last =
      ap (λ (k : ℕ). digits_value 10 (w ++ f) * 10 ^ k) (length-replicate last 48) in
      ap (digits_value 10) parts ∙ none_before ∙ ap (digits_value 10) joined ∙ both ∙ omega (arith, count, zeros_value last)

-- ---- the text

text_is : (front after : List ℕ) (count : ℕ) → length after ≡ count
    → front ++ (if count == 0 then [] else 46 ∷ after) ≡ front ++ after_point after
text_is front [] count long = rw (eq-eqb count 0 (sym long)) refl
text_is front (d ∷ ds) count long = rw (ne_eqb count 0 (λ none. absurd (omega (arith, long, none)))) refl

cut_text : (n places first last : ℕ) → n < 10 ^ 8 → IsCut (eight_digits n) places first last
    → IsScaledText (pos n) places (whole (eight_digits n) places first ++ (if places - last == 0 then [] else 46
    ∷ fraction (eight_digits n) places last))
unfolding sign_text
cut_text n places first last small cut =
    let digits : List ℕ = eight_digits n in
    let w : List ℕ = whole digits places first in
    let f : List ℕ = fraction digits places last in
    let all : AllDigits 10 (zeros first ++ (w ++ (f ++ zeros last))) = subst (AllDigits 10) (parts cut) (are_digits n small) in
    let written : AllDigits 10 (w ++ (f ++ zeros last)) = all_following (zeros first) (w ++ (f ++ zeros last)) all in
    let value : n ≡ digits_value 10 (w ++ f) * 10 ^ last = sym (value_is n small) ∙ value_of_written cut in
    let power : 10 ^ places ≡ 10 ^ last * 10 ^ (places - last) = ap (λ (k : ℕ). 10 ^ k) (omega (arith, cut.back))
    ∙ pow-add 10 last (places - last) in
    let turned : (x y z : ℕ) → x * (y * z) ≡ x * y * z = λ x y z. omega arith in
    record {
      plain = record { negative = false; whole = w; fraction = f };
      parts = record {
        is = text_is w f (places - last) (fraction_count cut);
        whole = (omega (arith, whole_count cut, cut.few, cut.front), all_front w (f ++ zeros last) written);
        fraction = all_front f (zeros last) (all_following w (f ++ zeros last) written);
      };
      reads = record {
        sign = sym (le-ltb n 0 (omega arith));
        number = ap (λ (k : ℕ). digits_value 10 (w ++ f) * k) power
            ∙ turned (digits_value 10 (w ++ f)) (10 ^ last) (10 ^ (places - last))
            ∙ ap (λ (k : ℕ). k * 10 ^ (places - last)) (sym value)
            ∙ ap (λ (k : ℕ). n * 10 ^ k) (sym (fraction_count cut));
      };
      shortest = record { first = first_is_none cut; last = last_is_none cut };
    }

cut_of : (n places f z : ℕ) → n < 10 ^ 8 → places < 8 → StartsWithZeros (eight_digits n) f → EndsInZeros (eight_digits n) z
    → IsCut (eight_digits n) places (min f (7 - places)) (min z places)
cut_of n places f z small few starts ends =
    let digits : List ℕ = eight_digits n in
    let first : ℕ = min f (7 - places) in
    let last : ℕ = min z places in
    record {
      few = few;
      front = omega arith;
      back = omega arith;
      count = refl;
      zeros_first = sym (take-take first f digits (omega arith)) ∙ ap (take first) starts.zeros ∙ take-replicate first f 48 (omega
          arith);
      zeros_last = ap (λ (k : ℕ). drop k digits) (omega (arith, ends.most, few)) ∙ sym (drop-drop (z - last) (8 - z) digits)
          ∙ ap (drop (z - last)) ends.zeros
          ∙ drop-replicate (z - last) z 48 ∙ ap (λ (k : ℕ). zeros k) (omega arith);
      first_digit = λ less.
          let same : first ≡ f = omega (arith, less) in
          subst (λ (k : ℕ). 48 < get_or digits k 0) (sym same) (starts.first (omega (arith, less)));
      last_digit = λ less.
          let same : last ≡ z = omega (arith, less) in
          subst (λ (k : ℕ). 48 < get_or digits (7 - k) 0) (sym same) (ends.last (omega (arith, less, few)));
    }

short_text : (n places f z : ℕ) → n < 10 ^ 8 → places < 8 → StartsWithZeros (eight_digits n) f → EndsInZeros (eight_digits n) z
    → take (8 - places - min f (7 - places)) (drop (min f (7 - places)) (eight_digits n)) ++ (if places - min z places == 0 then []
    else 46 ∷ take (places - min z places) (drop (7 - places + 1) (eight_digits n))) ≡ fixed_text (fewest_places n places)
unfolding whole fraction scaled_text
short_text n places f z small few starts ends =
    let no_sign : sign_of (pos n) ≡ [] = rw (le-ltb n 0 (omega arith)) refl in
    one_text _ _ (cut_text n places (min f (7 - places)) (min z places) small (cut_of n places f z small few starts ends))
    (scaled_text_is (pos n) places (omega (arith, small)))
    ∙ ap (λ (sign : List ℕ). sign ++ fixed_text (fewest_places n places)) no_sign

-- the parts, pushed one after the other
pub pushed_short : (old mid new digits : List ℕ) (n places f z after first last : ℕ) → new ≡ mid ++ (if after - last == 0 then []
    else 46 ∷ take (after - last) (drop (7 - after + 1) digits)) → mid ≡ old ++ take (8 - after - first) (drop first digits)
    → first ≡ min f (7 - after) → last ≡ min z after → after ≡ places → digits ≡ eight_digits n → n < 10 ^ 8 → places < 8
    → StartsWithZeros digits f → EndsInZeros digits z → new ≡ old ++ fixed_text (fewest_places n places)
pushed_short old mid new digits n places f z after first last q p first_is last_is after_is digits_are small few starts ends =
    let text : take (8 - after - first) (drop first digits) ++ (if after - last == 0 then [] else 46 ∷ take (after - last)
    (drop (7 - after + 1) digits)) ≡ fixed_text (fewest_places n places) =
    rw (first_is, last_is, after_is, digits_are) (short_text n places f z small few (subst (λ (ds : List ℕ). StartsWithZeros ds f)
    digits_are starts) (subst (λ (ds : List ℕ). EndsInZeros ds z) digits_are ends)) in
    pushed_then old mid new _ _ q p ∙ ap (λ (t : List ℕ). old ++ t) text
