-- Scaled values are within the bound, and a scale exists exactly when it fits.
use mir.Syntax.{w128}
use mir.Val.{SFits}
use Rattle.std.proofs.Common.{◌≡◌, ℕ, ℤ, zero, suc, ◌+◌, ◌*◌, ◌^◌, ◌<◌, ◌≤◌, ◌+ℤ◌, ◌*ℤ◌, nat_lt, nat_le, Option, Some, None, refl}
use Rattle.std.proofs.Common.{ap, ◌∙◌, arith, if◌then◌else◌, true, false, Bool, IsTrue, ◌&&◌}
use Rattle.std.specs.Prelude.{unsigned_abs}
use Rattle.std.proofs.Math.Nat.{mul-le-mul_left, le-mul_of_pos_right}
use Rattle.std.proofs.lemmas.Bool.{ltb-true, le-ltb, lt-leb, le-leb, and_left, and_right, and_from}
use Rattle.std.proofs.lemmas.Bool.Decides.{nat_tests}
use Rattle.std.proofs.lemmas.Nat.{pow_pos}
use Rattle.std.proofs.lemmas.Int.{ints, unsigned_abs-mul, fits_signed_from_abs}
use Rattle.dbc_values.specs.Decimals.{Decimal}
use Rattle.dbc_values.specs.Scales.{reach_fits, scale_fits, scale_of, places_of, magnitude_at, whole_at, signed}

abs_sum : (a b : ℤ) → unsigned_abs (a +ℤ b) ≤ unsigned_abs a + unsigned_abs b
abs_sum a b = grind (arith, ints)

-- what a product and a sum reach
pub product_below : (factor offset raw : ℤ) (length : ℕ) → IsTrue (reach_fits (unsigned_abs factor) (unsigned_abs offset) length)
    → unsigned_abs raw ≤ 2 ^ length
    → unsigned_abs (factor *ℤ raw) + unsigned_abs offset < 10 ^ 38
product_below factor offset raw length fits small =
    let reach : unsigned_abs factor * 2 ^ length + unsigned_abs offset < 10 ^ 38 =
    ltb-true (unsigned_abs factor * 2 ^ length + unsigned_abs offset) (10 ^ 38) fits in
    let more : unsigned_abs factor * unsigned_abs raw ≤ unsigned_abs factor * 2 ^ length =
    mul-le-mul_left (unsigned_abs factor) small in
    omega (arith, unsigned_abs-mul factor raw)

pub product_fits : (factor offset raw : ℤ) (length : ℕ) → IsTrue (reach_fits (unsigned_abs factor) (unsigned_abs offset) length)
    → unsigned_abs raw ≤ 2 ^ length
    → SFits w128 (factor *ℤ raw)
product_fits factor offset raw length fits small = fits_signed_from_abs w128 (factor *ℤ raw)
    (omega (arith, product_below factor offset raw length fits small))

pub value_fits : (factor offset raw : ℤ) (length : ℕ) → IsTrue (reach_fits (unsigned_abs factor) (unsigned_abs offset) length)
    → unsigned_abs raw ≤ 2 ^ length
    → SFits w128 ((factor *ℤ raw) +ℤ offset)
value_fits factor offset raw length fits small =
    fits_signed_from_abs w128 ((factor *ℤ raw) +ℤ offset) (omega (
      arith,
      product_below factor offset raw length fits small,
      abs_sum (factor *ℤ raw) offset,
    ))

-- whether the values of a scale are within the bound
abbrev pub reach_of : Decimal → Decimal → ℕ → Bool
reach_of factor offset length = reach_fits (magnitude_at (places_of factor offset) factor) (magnitude_at (places_of factor offset)
    offset) length

-- each test of a scale that fails leaves none
pub too_long : (factor offset : Decimal) (length : ℕ) → 64 < length → scale_fits factor offset length ≡ false
unfolding scale_fits
too_long factor offset length long = rw (lt-leb length 64 long) refl

pub too_many_places : (factor offset : Decimal) (length : ℕ) → 36 < places_of factor offset → scale_fits factor offset length
    ≡ false
unfolding scale_fits
too_many_places factor offset length many =
    let none : (nat_le length 64 && nat_le (places_of factor offset) 36) ≡ false =
    and_right (nat_le length 64) (nat_le (places_of factor offset) 36) (lt-leb (places_of factor offset) 36 many) in
    and_left (nat_le length 64 && nat_le (places_of factor offset) 36) (reach_of factor offset length) none

pub out_of_reach : (factor offset : Decimal) (length : ℕ) → reach_of factor offset length ≡ false → scale_fits factor offset length
    ≡ false
unfolding scale_fits
out_of_reach factor offset length far = and_right (nat_le length 64 && nat_le (places_of factor offset) 36)
    (reach_of factor offset length) far

pub all_fits : (factor offset : Decimal) (length : ℕ) → length ≤ 64 → places_of factor offset ≤ 36 → reach_of factor offset length
    ≡ true → scale_fits factor offset length ≡ true
unfolding scale_fits
all_fits factor offset length short few near =
    and_from (nat_le length 64 && nat_le (places_of factor offset) 36) (reach_of factor offset length)
    (and_from (nat_le length 64) (nat_le (places_of factor offset) 36) (le-leb length 64 short) (le-leb (places_of factor offset) 36
    few)) near

factor_far : (factor offset length : ℕ) → 10 ^ 38 ≤ factor → reach_fits factor offset length ≡ false
factor_far factor offset length far =
    le-ltb (factor * 2 ^ length + offset) (10 ^ 38) (omega (arith, le-mul_of_pos_right {m = 2 ^ length} factor (pow_pos length)))

offset_far : (factor offset length : ℕ) → 10 ^ 38 ≤ offset → reach_fits factor offset length ≡ false
offset_far factor offset length far = le-ltb (factor * 2 ^ length + offset) (10 ^ 38) (omega arith)

-- a whole number that exists, or doesn't, by its magnitude
abbrev pub where_short : ℕ → ℤ → Option ℤ
where_short n z = if nat_lt n (10 ^ 38) then Some z else None

none_long : (n : ℕ) (z : ℤ) (made : Option ℤ) → made ≡ where_short n z → made ≡ None → 10 ^ 38 ≤ n
none_long n z made is none = grind (arith, nat_tests)

pub some_is : (n : ℕ) (z y : ℤ) (made : Option ℤ) → made ≡ where_short n z → made ≡ Some y → y ≡ z
some_is n z y made is some = grind (arith, nat_tests)

pub no_factor : (factor offset : Decimal) (length : ℕ) (z : ℤ) (made : Option ℤ)
    → made ≡ where_short (magnitude_at (places_of factor offset) factor) z → made ≡ None → scale_fits factor offset length ≡ false
no_factor factor offset length z made is none =
    out_of_reach factor offset length (factor_far _ _ length (none_long (magnitude_at (places_of factor offset) factor) z made is
    none))

pub no_offset : (factor offset : Decimal) (length : ℕ) (z : ℤ) (made : Option ℤ)
    → made ≡ where_short (magnitude_at (places_of factor offset) offset) z → made ≡ None → scale_fits factor offset length ≡ false
no_offset factor offset length z made is none =
    out_of_reach factor offset length (offset_far _ _ length (none_long (magnitude_at (places_of factor offset) offset) z made is
    none))

pub abs_signed : (negative : Bool) (n : ℕ) → unsigned_abs (signed negative n) ≡ n
abs_signed false n = refl
abs_signed true zero = refl
abs_signed true (suc n) = refl

-- a reach that is computed of the whole numbers themselves
pub reach_is : (factor offset : Decimal) (length places a b : ℕ) (f o : ℤ) (fits : Bool) → places ≡ places_of factor offset
    → f ≡ whole_at places factor → o ≡ whole_at places offset
    → a ≡ unsigned_abs f → b ≡ unsigned_abs o → fits ≡ reach_fits a b length → fits ≡ reach_of factor offset length
reach_is factor offset length places a b f o fits p f-is o-is a-is b-is is =
    let a-at : a ≡ magnitude_at places factor = a-is ∙ ap unsigned_abs f-is
    ∙ abs_signed factor.negative (magnitude_at places factor) in
    let b-at : b ≡ magnitude_at places offset = b-is ∙ ap unsigned_abs o-is
    ∙ abs_signed offset.negative (magnitude_at places offset) in
    is ∙ ap (λ (n : ℕ). reach_fits n b length) a-at ∙ ap (λ (n : ℕ). reach_fits (magnitude_at places factor) n length) b-at
    ∙ ap (λ (n : ℕ). reach_fits (magnitude_at n factor) (magnitude_at n offset) length) p

pub scale_is : (factor offset : Decimal) (length places : ℕ) (f o : ℤ) → places ≡ places_of factor offset
    → f ≡ whole_at places factor → o ≡ whole_at places offset
    → (record { factor = f; offset = o; places = places; length = length }) ≡ scale_of factor offset length
unfolding scale_of
scale_is factor offset length places f o p f-is o-is = rw (f-is, o-is, p) refl
