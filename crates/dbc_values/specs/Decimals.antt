-- Exact decimals: numbers of a database text as sign, whole number and power of ten, in one form each.
-- Source: the DBC file format, "General Definitions" (signed_integer, unsigned_integer, double). That numbers are kept
-- exactly, and the bounds, are the profile of candesk.
use Rattle.std.specs.Prelude.{◌≡◌, ℕ, zero, suc, ℤ, pos, ◌+ℤ◌, ◌-ℤ◌, int_le, nat_lt, Bool, not, ◌&&◌, ◌==◌, ◌*◌, ◌^◌, ◌/◌, ◌%◌, ◌⊎◌}
use Rattle.std.specs.Prelude.{false, List, Option, Some, None, IsTrue, if◌then◌else◌}
use Rattle.std.specs.Ordering.{int_eq}
use Rattle.std.specs.Str.Parse.{starts_with_minus, without_leading_sign}
use Rattle.dbc_values.specs.Lexical.{is_number}
use Rattle.dbc_values.specs.Numbers.{mantissa_of, exponent_of, most_digits}

-- the number `mantissa · 10^exponent`, or its negation
pub record Decimal : Type 0 where
  pub negative : Bool
  pub mantissa : ℕ
  pub exponent : ℤ

-- the greatest exponent of a decimal; the least is its negation
abbrev pub most_exponent : ℕ
most_exponent = 400

-- The normal form: at most 36 digits of which the last is not zero, and an exponent from -400 to 400. Zero has no sign
-- and the exponent 0.
unfoldable pub decimal_fits : Bool → ℕ → ℤ → Bool
decimal_fits negative mantissa exponent =
    if mantissa == 0 then (not negative && int_eq exponent (pos 0))
    else (nat_lt mantissa (10 ^ most_digits) && not (mantissa % 10 == 0) && int_le (pos 0 -ℤ pos most_exponent) exponent && int_le
    exponent (pos most_exponent))

pub record IsDecimal (decimal : Decimal) : Type 0 where
  pub fits : IsTrue (decimal_fits decimal.negative decimal.mantissa decimal.exponent)

-- The decimal is the number `m · 10^e`, negated if `negative` is true: `m` is its mantissa and some zeros at the end, which its
-- exponent counts. A zero is zero with any exponent and sign.
abbrev pub HasValue : Bool → ℕ → ℤ → Decimal → Type 0
HasValue negative m e decimal =
    ((m ≡ 0) × (decimal.mantissa ≡ 0))
    ⊎ ((zeros : ℕ) × (m ≡ decimal.mantissa * 10 ^ zeros) × (decimal.exponent ≡ (e +ℤ pos zeros)) × (decimal.negative ≡ negative))

-- the decimal, in normal form, that is the number `m · 10^e`, negated if `negative` is true; there is at most one
pub record IsDecimalOf (negative : Bool) (m : ℕ) (e : ℤ) (decimal : Decimal) : Type 0 where
  pub fits : IsTrue (decimal_fits decimal.negative decimal.mantissa decimal.exponent)
  pub value : HasValue negative m e decimal

-- the same as a function: the decimal whose exponent counts up to this many zeros at the end of m
abbrev pub without_zeros : ℕ → Bool → ℕ → ℤ → Decimal
without_zeros zero negative m e = record { negative = negative; mantissa = m; exponent = e }
without_zeros (suc steps) negative m e =
    if m % 10 == 0 then without_zeros steps negative (m / 10) (e +ℤ pos 1) else record {
      negative = negative;
      mantissa = m;
      exponent = e;
    }

abbrev pub where_fits : Decimal → Option Decimal
where_fits decimal = if decimal_fits decimal.negative decimal.mantissa decimal.exponent then Some decimal else None

unfoldable pub decimal_of : Bool → ℕ → ℤ → Option Decimal
decimal_of negative m e =
    if m == 0 then Some (record { negative = false; mantissa = 0; exponent = pos 0 }) else where_fits (without_zeros m negative m e)

unfoldable pub decimal_of_number : Bool → List ℕ → Option Decimal
decimal_of_number negative number = if is_number number then decimal_of negative (mantissa_of number) (exponent_of number) else None

-- the bytes are a number, and the decimal is that number, negated if `negative` is true
pub record SpellsDecimal (negative : Bool) (number : List ℕ) (decimal : Decimal) : Type 0 where
  pub form : IsTrue (is_number number)
  pub is : IsDecimalOf negative (mantissa_of number) (exponent_of number) decimal

-- the same for bytes that may begin with a sign
abbrev pub SpellsSigned : List ℕ → Decimal → Type 0
SpellsSigned bytes decimal = SpellsDecimal (starts_with_minus bytes) (without_leading_sign bytes) decimal
