-- Which text is the decimal of `value` over ten to a number of decimal places: what a plain decimal reads as, and that nothing
-- in it is superfluous. Source: the DBC file format, "General Definitions" (double, without an exponent) and "Signal
-- Definitions" (physical value); cantools, the single-line form of `decode`. That values are written exactly and without
-- needless zeros is the profile of candesk.
use Rattle.std.specs.Prelude.{◌≡◌, ℕ, ℤ, pos, int_lt, unsigned_abs, ◌*◌, ◌^◌, Bool, List, [], ◌∷◌, ◌++◌, length}
use Rattle.std.specs.Str.Parse.{AllDigits, IsNumeral, digits_value}
use Rattle.dbc_values.specs.Lexical.{point, digit_zero}
use Rattle.dbc_records.specs.Layout.{sign_text}

-- ---- plain decimals

-- perhaps a sign, the digits before the point, and those after it
pub record Plain : Type 0 where
  pub negative : Bool
  pub whole : List ℕ
  pub fraction : List ℕ

-- there is a point if digits follow it
abbrev pub after_point : List ℕ → List ℕ
after_point [] = []
after_point (digit ∷ digits) = point ∷ (digit ∷ digits)

abbrev pub plain_text : Plain → List ℕ
plain_text plain = sign_text plain.negative ++ (plain.whole ++ after_point plain.fraction)

-- the text has these parts: at least one digit before the point, and digits alone before and after it
pub record HasParts (text : List ℕ) (plain : Plain) : Type 0 where
  pub is : text ≡ plain_text plain
  pub whole : IsNumeral 10 plain.whole
  pub fraction : AllDigits 10 plain.fraction

-- ---- numbers

-- all digits of a plain decimal, read as one whole number
abbrev pub all_digits : Plain → ℕ
all_digits plain = digits_value 10 (plain.whole ++ plain.fraction)

-- All digits over ten to the count of those after the point are the value over ten to the number of decimal places: the two
-- fractions are equal, each side being multiplied by both powers of ten. There is a sign exactly when the value is below 0.
pub record ReadsAs (plain : Plain) (value : ℤ) (places : ℕ) : Type 0 where
  pub sign : plain.negative ≡ int_lt value (pos 0)
  pub number : all_digits plain * 10 ^ places ≡ unsigned_abs value * 10 ^ length plain.fraction

-- ---- the one text

-- no zero comes first, except alone before the point, and none comes last after the point
pub record IsShortest (plain : Plain) : Type 0 where
  pub first : (rest : List ℕ) → plain.whole ≡ digit_zero ∷ rest → rest ≡ []
  pub last : (front : List ℕ) → plain.fraction ≡ front ++ (digit_zero ∷ []) → ⊥

-- the text is a decimal of the value over ten to the number of decimal places, with nothing superfluous in it
pub record IsScaledText (value : ℤ) (places : ℕ) (text : List ℕ) : Type 0 where
  pub plain : Plain
  pub parts : HasParts text plain
  pub reads : ReadsAs plain value places
  pub shortest : IsShortest plain
