-- What a number of a database text means: `m · 10^e`, where `m` is the value of all its digits read as one whole
-- number, and `e` its exponent less the count of the digits after its point. Source: the DBC file format,
-- "General Definitions" (unsigned_integer, double).
use Rattle.std.specs.Prelude.{◌≡◌, ℕ, ℤ, pos, negsuc, ◌+◌, ◌*◌, ◌+ℤ◌, ◌-ℤ◌, ◌≤ℤ◌, ◌⊎◌, ◌^◌, ◌/◌, ◌%◌, ◌==◌, ◌<◌, ◌≤◌, nat_lt, List}
use Rattle.std.specs.Prelude.{◌++◌, length, Option, Some, None, IsTrue, if◌then◌else◌}
use Rattle.std.specs.List.{list_all, before_first, after_first}
use Rattle.std.specs.Str.Parse.{digits_value, digits_value_after, signed_digits_value}
use Rattle.dbc_values.specs.Lexical.{is_digit, is_point, is_exponent_mark, is_number}
use Rattle.dbc_values.specs.declared.number.Whole.{Whole}
use Rattle.dbc_values.specs.declared.number.Whole.TheVariants.{Fraction, TooLarge, Value}

-- the digits with their point, before the exponent
abbrev pub mantissa_text : List ℕ → List ℕ
mantissa_text number = before_first is_exponent_mark number

abbrev pub digits_before_point : List ℕ → List ℕ
digits_before_point number = before_first is_point (mantissa_text number)

abbrev pub digits_after_point : List ℕ → List ℕ
digits_after_point number = after_first is_point (mantissa_text number)

-- all the digits before the exponent, read as one whole number
unfoldable pub mantissa_of : List ℕ → ℕ
mantissa_of number = digits_value 10 (digits_before_point number ++ digits_after_point number)

-- the number after `E`, or 0 if there is none
abbrev pub written_exponent : List ℕ → ℤ
written_exponent number = signed_digits_value 10 (after_first is_exponent_mark number)

unfoldable pub exponent_of : List ℕ → ℤ
exponent_of number = written_exponent number -ℤ pos (length (digits_after_point number))

-- the most digits of a decimal
abbrev pub most_digits : ℕ
most_digits = 36

-- ---- whole numbers by value: `1.0` is 1, and `80E-1` is 8

-- `m · 10^e` is the whole number n
unfoldable pub IsWholeNumber : ℕ → ℤ → ℕ → Type 0
IsWholeNumber m (pos zeros) n = n ≡ m * 10 ^ zeros
IsWholeNumber m (negsuc k) n = m ≡ n * 10 ^ (k + 1)

-- whether `m · 10^e` is whole, and which 64-bit number it is
abbrev pub IsWhole : ℕ → ℤ → Whole → Type 0
IsWhole m e Fraction = (n : ℕ) → IsWholeNumber m e n → ⊥
IsWhole m e TooLarge = (n : ℕ) × (2 ^ 64 ≤ n) × IsWholeNumber m e n
IsWhole m e (Value n) = (n < 2 ^ 64) × IsWholeNumber m e n

-- the same as a function
abbrev pub as_whole : ℕ → Whole
as_whole n = if nat_lt n (2 ^ 64) then Value n else TooLarge

unfoldable pub whole_value : ℕ → ℤ → Whole
whole_value m (pos zeros) = as_whole (m * 10 ^ zeros)
whole_value m (negsuc k) = if m % 10 ^ (k + 1) == 0 then as_whole (m / 10 ^ (k + 1)) else Fraction

unfoldable pub whole_of_number : List ℕ → Option Whole
whole_of_number number = if is_number number then Some (whole_value (mantissa_of number) (exponent_of number)) else None

-- the bytes are a number, and its value as a whole number
pub record SpellsWhole (number : List ℕ) (whole : Whole) : Type 0 where
  pub form : IsTrue (is_number number)
  pub is : IsWhole (mantissa_of number) (exponent_of number) whole

-- ---- what is kept of a number while it is read; the clauses of public calls don't mention it

-- the number if it has at most the digits of a decimal
abbrev pub at_most_36_digits : ℕ → Option ℕ
at_most_36_digits n = if nat_lt n (10 ^ most_digits) then Some n else None

-- m is a number with some zeros after it, whose last digit is not zero unless it is 0 as a whole
pub record HasDigits (m : ℕ) (digits : Option ℕ) (zeros : ℕ) : Type 0 where
  pub front : ℕ
  pub value : m ≡ front * 10 ^ zeros
  pub last : front % 10 ≡ 0 → front ≡ 0
  pub kept : digits ≡ at_most_36_digits front

-- x is e, or both are beyond the bound on one side
abbrev pub OccursFor : ℕ → ℤ → ℤ → Type 0
OccursFor bound e x = (x ≡ e) ⊎ (((pos bound ≤ℤ x) × (pos bound ≤ℤ e))
    ⊎ ((x ≤ℤ (pos 0 -ℤ pos bound)) × (e ≤ℤ (pos 0 -ℤ pos bound))))

-- `m · 10^e` is `digits · 10^exponent`, without zeros at the end of the digits, if the exponent is not far from 0
pub record IsReduced (m : ℕ) (e : ℤ) (digits : Option ℕ) (exponent : ℤ) : Type 0 where
  pub zeros : ℕ
  pub front : HasDigits m digits zeros
  pub power : OccursFor 1000 (e +ℤ pos zeros) exponent

-- digits that follow those of a number and write the value together with them, and then the rest
pub record IsDigitsThen (start : ℕ) (bytes : List ℕ) (value : ℕ) (rest : List ℕ) : Type 0 where
  pub front : List ℕ
  pub parts : bytes ≡ front ++ rest
  pub digits : IsTrue (list_all is_digit front)
  pub value_of : value ≡ digits_value_after 10 start front
  pub fits : value < 2 ^ 64
