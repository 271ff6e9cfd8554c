-- Numbers without a sign and a point.
use Rattle.std.proofs.Common.{◌≡◌, ℕ, ℤ, pos, zero, suc, ◌++◌, List, [], refl, ap, arith}
use Rattle.std.specs.Prelude.{decimal}
use Rattle.std.proofs.lemmas.Bool.{le-ltb}
use Rattle.can_decode.specs.Values.{fewest_places, fixed_text, sign_of, scaled_text}

fewest_zero : (places : ℕ) → fewest_places 0 places ≡ record { digits = 0; places = 0 }
fewest_zero zero = refl
fewest_zero (suc places) = fewest_zero places

no_sign : (number : ℕ) → sign_of (pos number) ≡ []
no_sign number = rw (le-ltb number 0 (omega arith)) refl

whole : (number : ℕ) → scaled_text (pos number) 0 ≡ decimal number
unfolding scaled_text fixed_text
whole number = ap (λ (sign : List ℕ). sign ++ fixed_text (fewest_places number 0)) (no_sign number)

zero_with : (places : ℕ) → scaled_text (pos 0) places ≡ decimal 0
unfolding scaled_text fixed_text
zero_with places = ap fixed_text (fewest_zero places)

-- a number without decimal places
pub whole_text : (value : ℤ) (number places : ℕ) → value ≡ pos number → places ≡ 0 → scaled_text value places ≡ decimal number
whole_text value number places is none = rw (is, none) (whole number)

-- zero with any decimal places
pub zero_text : (value : ℤ) (number places : ℕ) → value ≡ pos number → number ≡ 0 → scaled_text value places ≡ decimal number
zero_text value number places is none = rw (is, none) (zero_with places)
