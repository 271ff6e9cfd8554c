-- The eight digits of a number.
use Rattle.std.specs.Prelude.{◌≡◌, ℕ, ◌+◌, ◌-◌, ◌/◌, ◌%◌, ◌<◌, ◌≤◌, List, [], ◌∷◌, take, drop, get_or, replicate}
use Rattle.dbc_values.specs.Lexical.{digit_zero}

-- the digits of a number below a hundred million, with zeros in front
abbrev pub eight_digits : ℕ → List ℕ
eight_digits n = (48 + n / 10000000) ∷ (48 + n / 1000000 % 10) ∷ (48 + n / 100000 % 10) ∷ (48 + n / 10000 % 10)
    ∷ (48 + n / 1000 % 10) ∷ (48 + n / 100 % 10) ∷ (48 + n / 10 % 10) ∷ (48 + n % 10) ∷ []

-- the first `count` of eight digits are zeros, and the next digit isn't zero or is the last
pub record StartsWithZeros (digits : List ℕ) (count : ℕ) : Type 0 where
  pub most : count < 8
  pub zeros : take count digits ≡ replicate count digit_zero
  pub first : count < 7 → digit_zero < get_or digits count 0

-- the last `count` of eight digits are zeros, and the digit before these isn't zero
pub record EndsInZeros (digits : List ℕ) (count : ℕ) : Type 0 where
  pub most : count ≤ 8
  pub zeros : drop (8 - count) digits ≡ replicate count digit_zero
  pub last : count < 8 → digit_zero < get_or digits (7 - count) 0
