-- The last bit of a field is farthest from the start, so it alone determines whether the field is outside.
use Rattle.std.proofs.Common.{◌≡◌, ℕ, zero, suc, ◌+◌, ◌-◌, ◌*◌, ◌/◌, ◌<◌, ◌≤◌, nat_le, Bool, true, false, if◌then◌else◌, refl, sym}
use Rattle.std.proofs.Common.{ap, ◌∙◌, arith}
use Rattle.std.specs.List.{list_any, range_with_len}
use Rattle.std.proofs.lemmas.Bool.{le-leb, leb-true}
use Rattle.dbc_records.specs.Records.{is_intel}
use Rattle.can_bits.specs.declared.field.Field.{Field}
use Rattle.can_bits.specs.Bits.{mirrored, position_of, is_outside}
use Rattle.can_bits.specs.Steps.{passed_at}

holds_on : (test : ℕ → Bool) (index n : ℕ) → ((p : ℕ) → test p ≡ true → test (p + 1) ≡ true) → test index ≡ true
    → test (index + n) ≡ true
holds_on test index zero grows holds = let here : index + 0 ≡ index = omega arith in rw here holds
holds_on test index (suc n) grows holds = let on : index + suc n ≡ index + 1 + n = omega arith in
    rw on (holds_on test (index + 1) n grows (grows index holds))

-- a test that carries over from each index to the next holds at some index exactly when it holds at the last
any_growing : (test : ℕ → Bool) (index n : ℕ) → ((p : ℕ) → test p ≡ true → test (p + 1) ≡ true)
    → list_any test (range_with_len index (suc n)) ≡ test (index + n)
any_growing test index zero grows =
    let here : index + 0 ≡ index = omega arith in
    elim (test index) as (λ b. test index ≡ b → list_any test (range_with_len index 1) ≡ test (index + 0)) [
      | true ↦ λ holds. rw (here, holds) refl
      | false ↦ λ fails. rw (here, fails) refl
    ] refl
any_growing test index (suc n) grows =
    let on : index + suc n ≡ index + 1 + n = omega arith in
    elim (test index) as (λ b. test index ≡ b → list_any test (range_with_len index (suc (suc n))) ≡ test (index + suc n)) [
      | true ↦ λ holds. rw holds (sym (holds_on test index (suc n) grows holds))
      | false ↦ λ fails. rw (fails, on) (any_growing test (index + 1) n grows)
    ] refl

same_order : (a b c d : ℕ) → (a ≤ b → c ≤ d) → (c ≤ d → a ≤ b) → nat_le a b ≡ nat_le c d
same_order a b c d on back = grind arith

position_byte : (field : Field) (index : ℕ) → position_of field index / 8 ≡ passed_at field index / 8
position_byte field index =
    elim (is_intel field.order) as (λ intel. (if intel then field.start + index else mirrored (mirrored field.start + index)) / 8
    ≡ (if intel then field.start + index else mirrored field.start + index) / 8) [
      | true ↦ refl
      | false ↦ omega arith
    ]

passed_next : (field : Field) (index : ℕ) → passed_at field (index + 1) ≡ passed_at field index + 1
passed_next field index =
    elim (is_intel field.order) as (λ intel. (if intel then field.start + (index + 1) else mirrored field.start + (index + 1))
    ≡ (if intel then field.start + index else mirrored field.start + index) + 1) [ true ↦ omega arith | false ↦ omega arith ]

-- a bit is after the data exactly when its byte is
after_bytes : (size : ℕ) (field : Field) (index : ℕ) → nat_le (8 * size) (position_of field index)
    ≡ nat_le size (passed_at field index / 8)
after_bytes size field index =
    let byte : position_of field index / 8 ≡ passed_at field index / 8 = position_byte field index in
    same_order (8 * size) (position_of field index) size (passed_at field index / 8) (λ h. omega (arith, byte, h))
    (λ h. omega (arith, byte, h))

byte_grows : (size : ℕ) (field : Field) (index : ℕ) → nat_le (8 * size) (position_of field index) ≡ true
    → nat_le (8 * size) (position_of field (index + 1)) ≡ true
byte_grows size field index after =
    let next : passed_at field (index + 1) ≡ passed_at field index + 1 = passed_next field index in
    let here : size ≤ passed_at field index / 8 = leb-true size (passed_at field index / 8) (sym (after_bytes size field index)
    ∙ after) in
    let there : size ≤ passed_at field (index + 1) / 8 = omega (arith, next, here) in
    after_bytes size field (index + 1) ∙ le-leb size (passed_at field (index + 1) / 8) there

pub last_outside : (size : ℕ) (field : Field) → 0 < field.length → nat_le size (passed_at field (field.length - 1) / 8)
    ≡ is_outside size field
unfolding is_outside
last_outside size field some =
    let more : field.length ≡ suc (field.length - 1) = omega arith in
    let last : 0 + (field.length - 1) ≡ field.length - 1 = omega arith in
    sym (ap (λ (n : ℕ). list_any (λ index. nat_le (8 * size) (position_of field index)) (range_with_len 0 n)) more
    ∙ any_growing (λ index. nat_le (8 * size) (position_of field index)) 0 (field.length - 1) (byte_grows size field)
    ∙ ap (λ (n : ℕ). nat_le (8 * size) (position_of field n)) last
    ∙ after_bytes size field (field.length - 1))

pub none_outside : (size : ℕ) (field : Field) → field.length ≡ 0 → is_outside size field ≡ false
unfolding is_outside
none_outside size field none = ap (λ (n : ℕ). list_any (λ index. nat_le (8 * size) (position_of field index)) (range_with_len 0 n))
    none
