-- Raw values as 128 bits compute them.
use Rattle.std.proofs.Common.{◌≡◌, ℕ, ◌+◌, ◌-◌, ◌*◌, ◌%◌, ◌^◌, ◌<◌, ◌≤◌, ◌&&◌, nat_le, Bool, true, false, List, length, sym, ap}
use Rattle.std.proofs.Common.{◌∙◌, arith}
use Rattle.std.specs.Prelude.{ℤ, pos, ◌-ℤ◌, ◌*ℤ◌, unsigned_abs, if◌then◌else◌}
use Rattle.std.specs.Int.{w128}
use Rattle.std.proofs.lemmas.Int.{ints, to_z-of_z}
use Rattle.std.proofs.lemmas.Bool.{le-leb, lt-leb}
use Rattle.std.proofs.lemmas.Nat.{pow-add}
use Rattle.std.proofs.Math.Nat.{pow-le-pow_right, mod-eq_of_lt}
use mir.Val.{SFits, to_z, of_z}
use Rattle.can_bits.specs.declared.field.Field.{Field}
use Rattle.can_bits.specs.Bits.{Bit, bits_of, bits_from, unsigned_raw, is_negative, raw_value}
use Rattle.can_bits.proofs.Runs.{raw_below}
use Rattle.can_bits.proofs.Signs.{sign_is, bit_count}

-- ---- the sign, as the code tests it

pub no_bits : (bytes : List ℕ) (field : Field) → field.length ≡ 0 → is_negative bytes (bits_of field) ≡ false
unfolding bits_of
no_bits bytes field none = ap (λ (n : ℕ). is_negative bytes (bits_from field 0 n)) none

half_is : (count : ℕ) → 0 < count → count ≤ 64 → 1 * 2 ^ (count - 1) % 18446744073709551616 ≡ 2 ^ (count - 1)
half_is count some most =
    let few : count - 1 ≤ 63 = omega arith in
    let small : 2 ^ (count - 1) ≤ 2 ^ 63 = pow-le-pow_right {n = 2} (omega arith) few in
    let one : 1 * 2 ^ (count - 1) ≡ 2 ^ (count - 1) = omega arith in
    let below : 2 ^ (count - 1) < 18446744073709551616 = omega (arith, small) in
    ap (λ (n : ℕ). n % 18446744073709551616) one ∙ mod-eq_of_lt below

pub below_half : (bytes : List ℕ) (field : Field) (raw : ℕ) → 0 < field.length → field.length ≤ 64
    → raw ≡ unsigned_raw bytes (bits_of field) → raw < 1 * 2 ^ (field.length - 1) % 18446744073709551616
    → is_negative bytes (bits_of field) ≡ false
unfolding bits_of
below_half bytes field raw some most is below =
    sign_is bytes field some ∙ ap (nat_le (2 ^ (field.length - 1))) (sym is)
    ∙ lt-leb (2 ^ (field.length - 1)) raw (let half = half_is field.length some most in omega (arith, below, half))

pub from_half : (bytes : List ℕ) (field : Field) (raw : ℕ) → 0 < field.length → field.length ≤ 64
    → raw ≡ unsigned_raw bytes (bits_of field) → 1 * 2 ^ (field.length - 1) % 18446744073709551616 ≤ raw
    → is_negative bytes (bits_of field) ≡ true
unfolding bits_of
from_half bytes field raw some most is above =
    sign_is bytes field some ∙ ap (nat_le (2 ^ (field.length - 1))) (sym is)
    ∙ le-leb (2 ^ (field.length - 1)) raw (let half = half_is field.length some most in omega (arith, above, half))

-- ---- the value

fits : (n : ℕ) → n ≤ 2 ^ 64 → SFits w128 (pos n)
fits n small = omega (arith, ints)

pub positive_value : (bytes : List ℕ) (signed : Bool) (bits : List Bit) (raw : ℕ) (r : ℤ) → raw < 18446744073709551616
    → raw ≡ unsigned_raw bytes bits → r ≡ pos raw → (signed && is_negative bytes bits) ≡ false
    → to_z w128 (of_z w128 r) ≡ raw_value bytes signed bits
unfolding raw_value
positive_value bytes signed bits raw r small is as_signed sign =
    rw (as_signed, sign) (to_z-of_z w128 (pos raw) (fits raw (omega (arith, small))) ∙ ap pos is)

difference_fits : (raw whole : ℕ) → raw ≤ 2 ^ 64 → whole ≤ 2 ^ 64 → SFits w128 (pos raw -ℤ pos whole)
difference_fits raw whole small most = omega (arith, ints)

negative : (raw half whole : ℕ) (r h : ℤ) → raw ≤ 2 ^ 64 → whole ≤ 2 ^ 64 → 2 * half ≡ whole → r ≡ pos raw → h ≡ pos half
    → to_z w128 (of_z w128 (to_z w128 (of_z w128 r) -ℤ to_z w128 (of_z w128 (pos 2 *ℤ to_z w128 (of_z w128 h)))))
    ≡ pos raw -ℤ pos whole
negative raw half whole r h small most double e1 e2 =
    let kept : ℤ → ℤ = λ z. to_z w128 (of_z w128 z) in
    let product : pos 2 *ℤ pos half ≡ pos whole = ap pos double in
    let half_kept : kept h ≡ pos half = ap kept e2 ∙ to_z-of_z w128 (pos half) (fits half (omega (arith, double, most))) in
    let whole_kept : kept (pos 2 *ℤ kept h) ≡ pos whole = ap (λ (z : ℤ). kept (pos 2 *ℤ z)) half_kept ∙ ap kept product
    ∙ to_z-of_z w128 (pos whole) (fits whole most) in
    let raw_kept : kept r ≡ pos raw = ap kept e1 ∙ to_z-of_z w128 (pos raw) (fits raw small) in
    ap (λ (z : ℤ). kept (z -ℤ kept (pos 2 *ℤ kept h))) raw_kept
    ∙ ap (λ (z : ℤ). kept (pos raw -ℤ z)) whole_kept
    ∙ to_z-of_z w128 (pos raw -ℤ pos whole) (difference_fits raw whole small most)

pub negative_value : (bytes : List ℕ) (field : Field) (signed : Bool) (raw : ℕ) (r h : ℤ) → 0 < field.length → field.length ≤ 64
    → raw < 18446744073709551616 → raw ≡ unsigned_raw bytes (bits_of field) → r ≡ pos raw
    → h ≡ pos (1 * 2 ^ (field.length - 1) % 18446744073709551616) → signed ≡ true → is_negative bytes (bits_of field) ≡ true
    → to_z w128 (of_z w128 (to_z w128 (of_z w128 r) -ℤ to_z w128 (of_z w128 (pos 2 *ℤ to_z w128 (of_z w128 h)))))
    ≡ raw_value bytes signed (bits_of field)
unfolding raw_value bits_of
negative_value bytes field signed raw r h some most small is e1 e2 is_signed sign =
    let half : 1 * 2 ^ (field.length - 1) % 18446744073709551616 ≡ 2 ^ (field.length - 1) = half_is field.length some most in
    let whole : 2 ^ (field.length - 1 + 1) ≡ 2 ^ (field.length - 1) * 2 = pow-add 2 (field.length - 1) 1 in
    let all : 2 ^ (field.length - 1 + 1) ≡ 2 ^ field.length = ap (λ (n : ℕ). 2 ^ n) (omega arith) in
    let double : 2 * 2 ^ (field.length - 1) ≡ 2 ^ field.length = omega (arith, whole, all) in
    let bound : 2 ^ field.length ≤ 2 ^ 64 = pow-le-pow_right {n = 2} (omega arith) most in
    let counted : 2 ^ length (bits_from field 0 field.length) ≡ 2 ^ field.length = ap (λ (n : ℕ). 2 ^ n) (bit_count field) in
    rw (is_signed, sign, counted) (negative raw (2 ^ (field.length - 1)) (2 ^ field.length) r h (omega (arith, small)) bound double
    e1 (e2 ∙ ap pos half) ∙ ap (λ (n : ℕ). pos n -ℤ pos (2 ^ field.length)) is)

-- ---- how large it is

pub value_in_range : (bytes : List ℕ) (signed : Bool) (field : Field) → unsigned_abs (raw_value bytes signed (bits_of field)) ≤ 2 ^
    length (bits_of field)
unfolding raw_value bits_of
value_in_range bytes signed field =
    let below : unsigned_raw bytes (bits_from field 0 field.length) < 2 ^ field.length = raw_below bytes field in
    let counted : 2 ^ length (bits_from field 0 field.length) ≡ 2 ^ field.length = ap (λ (n : ℕ). 2 ^ n) (bit_count field) in
    elim (signed && is_negative bytes (bits_from field 0 field.length)) as
    (λ sign. unsigned_abs (if sign then pos (unsigned_raw bytes (bits_from field 0 field.length)) -ℤ pos
    (2 ^ length (bits_from field 0 field.length)) else pos (unsigned_raw bytes (bits_from field 0 field.length))) ≤ 2 ^
    length (bits_from field 0 field.length)) [
      | true ↦ rw counted (omega (arith, ints, below))
      | false ↦ rw counted (omega (arith, ints, below))
    ]
