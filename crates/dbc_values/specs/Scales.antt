-- The scale of a signal in whole numbers: its value is `factor · raw + offset` with the point `places` digits from the
-- right, without any rounding.
-- Source: the DBC file format, "Signal Definitions" (factor, offset: physical_value = raw_value * factor + offset). The
-- bounds are the profile of candesk: every value has at most 38 digits.
use Rattle.std.specs.Prelude.{ℕ, suc, ℤ, pos, negsuc, neg_ℤ, ◌+◌, ◌-◌, ◌*◌, ◌^◌, ◌≤◌, max, nat_lt, nat_le, Bool, ◌&&◌, IsTrue}
use Rattle.std.specs.Prelude.{if◌then◌else◌, unsigned_abs}
use Rattle.dbc_values.specs.Decimals.{Decimal}

-- `length` is the greatest number of raw bits
pub record Scale : Type 0 where
  pub factor : ℤ
  pub offset : ℤ
  pub places : ℕ
  pub length : ℕ

-- how many digits a decimal with this exponent has after its point
abbrev pub digits_after : ℤ → ℕ
digits_after (pos e) = 0
digits_after (negsuc n) = suc n

-- the power of ten that a mantissa takes, once the point is moved that many places
abbrev pub moved_exponent : ℕ → ℤ → ℕ
moved_exponent places (pos e) = places + e
moved_exponent places (negsuc n) = places - suc n

-- a decimal times a power of ten that makes it whole, without its sign
abbrev pub magnitude_at : ℕ → Decimal → ℕ
magnitude_at places decimal = decimal.mantissa * 10 ^ moved_exponent places decimal.exponent

abbrev pub signed : Bool → ℕ → ℤ
signed negative n = if negative then neg_ℤ (pos n) else pos n

abbrev pub whole_at : ℕ → Decimal → ℤ
whole_at places decimal = signed decimal.negative (magnitude_at places decimal)

-- the least number of decimal places at which both factor and offset are whole
abbrev pub places_of : Decimal → Decimal → ℕ
places_of factor offset = max (digits_after factor.exponent) (digits_after offset.exponent)

-- whether every value of a raw number up to `2^length`, either way, has at most 38 digits
abbrev pub reach_fits : ℕ → ℕ → ℕ → Bool
reach_fits factor offset length = nat_lt (factor * 2 ^ length + offset) (10 ^ 38)

-- the most raw bits that a signal with a scale may have, and the most decimal places
abbrev pub most_raw_bits : ℕ
most_raw_bits = 64

abbrev pub most_places : ℕ
most_places = 36

unfoldable pub scale_fits : Decimal → Decimal → ℕ → Bool
scale_fits factor offset length =
    let places = places_of factor offset in
    nat_le length most_raw_bits && nat_le places most_places && reach_fits (magnitude_at places factor) (magnitude_at places offset)
    length

unfoldable pub scale_of : Decimal → Decimal → ℕ → Scale
scale_of factor offset length =
    let places = places_of factor offset in
    record { factor = whole_at places factor; offset = whole_at places offset; places = places; length = length }

pub record IsScale (scale : Scale) : Type 0 where
  pub length : scale.length ≤ most_raw_bits
  pub places : scale.places ≤ most_places
  pub reach : IsTrue (reach_fits (unsigned_abs scale.factor) (unsigned_abs scale.offset) scale.length)
