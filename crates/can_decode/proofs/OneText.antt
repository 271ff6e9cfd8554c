-- A value has at most one text.
use Rattle.std.proofs.Common.{◌≡◌, ℕ, ℤ, ◌+◌, ◌*◌, ◌^◌, ◌<◌, List, length, sym, ap, subst, ◌∙◌, arith}
use Rattle.std.specs.Prelude.{unsigned_abs}
use Rattle.std.specs.Str.Parse.{digits_value}
use Rattle.std.proofs.lemmas.Int.Digits.{digits_value-lt}
use Rattle.dbc_values.proofs.Powers.{same_tens, ends_in_zero}
use Rattle.can_decode.specs.ScaledTexts.{plain_text, all_digits, IsScaledText}
use Rattle.can_decode.proofs.DigitTexts.{value_of_both, same_parts, same_digits, same_whole, no_zero_last}

-- both read as the same number
crossed : (m n value p i j : ℕ) → m * 10 ^ p ≡ value * 10 ^ i → n * 10 ^ p ≡ value * 10 ^ j → m * 10 ^ j ≡ n * 10 ^ i
crossed m n value p i j a b =
    let turned : (x y z : ℕ) → x * y * z ≡ x * z * y = λ x y z. omega arith in
    same_tens (m * 10 ^ j) (n * 10 ^ i) p
    (turned m (10 ^ j) (10 ^ p) ∙ ap (λ (k : ℕ). k * 10 ^ j) a ∙ turned value (10 ^ i) (10 ^ j) ∙ ap (λ (k : ℕ). k * 10 ^ i) (sym b)
    ∙ turned n (10 ^ p) (10 ^ i))

module _ {value : ℤ} {places : ℕ} where
  cross : {a b : List ℕ} (p : IsScaledText value places a) (q : IsScaledText value places b)
      → all_digits p.plain * 10 ^ length q.plain.fraction ≡ all_digits q.plain * 10 ^ length p.plain.fraction
  cross p q = crossed (all_digits p.plain) (all_digits q.plain) (unsigned_abs value) places (length p.plain.fraction)
      (length q.plain.fraction) p.reads.number q.reads.number

  -- neither has more digits after its point
  not_more : {a b : List ℕ} (p : IsScaledText value places a) (q : IsScaledText value places b)
      → length q.plain.fraction < length p.plain.fraction → ⊥
  not_more p q fewer =
      no_zero_last p.plain.whole p.plain.fraction p.parts.fraction (omega arith) p.shortest.last
      (ends_in_zero (all_digits p.plain) (all_digits q.plain) (length q.plain.fraction) (length p.plain.fraction) (cross p q) fewer)

  pub one_text : (a b : List ℕ) → IsScaledText value places a → IsScaledText value places b → a ≡ b
  one_text a b p q =
      let no_more : ¬ (length q.plain.fraction < length p.plain.fraction) = not_more p q in
      let no_fewer : ¬ (length p.plain.fraction < length q.plain.fraction) = not_more q p in
      let many : length p.plain.fraction ≡ length q.plain.fraction = omega arith in
      let digits : all_digits p.plain ≡ all_digits q.plain =
      same_tens (all_digits p.plain) (all_digits q.plain) (length p.plain.fraction) (ap (λ (k : ℕ). all_digits p.plain * 10 ^ k)
      many ∙ cross p q) in
      let split : all_digits q.plain ≡ digits_value 10 q.plain.whole * 10 ^ length p.plain.fraction + digits_value 10
      q.plain.fraction =
      value_of_both q.plain.whole q.plain.fraction ∙ ap (λ (k : ℕ). digits_value 10 q.plain.whole * 10 ^ k + digits_value 10
      q.plain.fraction) (sym many) in
      let small : digits_value 10 q.plain.fraction < 10 ^ length p.plain.fraction =
      subst (λ (k : ℕ). digits_value 10 q.plain.fraction < 10 ^ k) (sym many) (digits_value-lt 10 q.plain.fraction
      q.parts.fraction) in
      let parts = same_parts (digits_value 10 p.plain.whole) (digits_value 10 q.plain.whole) (digits_value 10 p.plain.fraction)
      (digits_value 10 q.plain.fraction) (10 ^ length p.plain.fraction)
      (digits_value-lt 10 p.plain.fraction p.parts.fraction) small (sym (value_of_both p.plain.whole p.plain.fraction) ∙ digits
      ∙ split) in
      let whole : p.plain.whole ≡ q.plain.whole = same_whole p.plain.whole q.plain.whole p.parts.whole q.parts.whole
      p.shortest.first q.shortest.first parts.above in
      let fraction : p.plain.fraction ≡ q.plain.fraction = same_digits p.plain.fraction q.plain.fraction p.parts.fraction
      q.parts.fraction many parts.below in
      let negative : p.plain.negative ≡ q.plain.negative = p.reads.sign ∙ sym q.reads.sign in
      let plain : p.plain ≡ q.plain = λ i. record { negative = negative i; whole = whole i; fraction = fraction i } in
      p.parts.is ∙ ap plain_text plain ∙ sym q.parts.is
