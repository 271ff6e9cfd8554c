-- The position of each bit follows from that of the bit before.
use Rattle.std.proofs.Common.{◌≡◌, ℕ, zero, suc, ◌+◌, ◌%◌, true, false, refl, sym, ap, ◌∙◌, add-one, inl, inr, arith}
use Rattle.std.proofs.lemmas.Bool.{cases_Bool, cases_eq, eq-eqb, ne_eqb}
use Rattle.dbc_records.specs.Records.{is_intel}
use Rattle.can_bits.specs.declared.field.Field.{Field}
use Rattle.can_bits.specs.Bits.{mirrored, position_of}
use Rattle.can_bits.specs.Stepping.{next_bit, next_position, position_after}

step_down : (m : ℕ) → mirrored (m + 1) ≡ next_bit (mirrored m)
step_down m = elim (cases_eq (mirrored m % 8) 0) [
  | inl last ↦ rw (eq-eqb (mirrored m % 8) 0 last) (omega (arith, last))
  | inr inner ↦ rw (ne_eqb (mirrored m % 8) 0 inner) (omega (arith, inner))
]

pub down_from : (field : Field) (index : ℕ) → is_intel field.order ≡ false → position_of field (index + 1)
    ≡ next_bit (position_of field index)
down_from field index motorola =
    let further : mirrored field.start + (index + 1) ≡ mirrored field.start + index + 1 = omega arith in
    rw (motorola, further) (step_down (mirrored field.start + index))

pub up_from : (field : Field) (index : ℕ) → is_intel field.order ≡ true
    → position_of field (index + 1) ≡ position_of field index + 1
up_from field index intel = rw intel (omega arith)

pub first_at : (field : Field) → position_of field 0 ≡ field.start
first_at field = elim (cases_Bool (is_intel field.order)) [
  | inl intel ↦ rw intel (omega arith)
  | inr motorola ↦ rw motorola (omega arith)
]

next_from : (field : Field) (index : ℕ) → position_of field (index + 1) ≡ next_position field.order (position_of field index)
next_from field index = elim (cases_Bool (is_intel field.order)) [
  | inl intel ↦ rw intel (omega arith)
  | inr motorola ↦ down_from field index motorola ∙ rw motorola refl
]

pub all_after : (field : Field) (index : ℕ) → position_of field index ≡ position_after field.order field.start index
all_after field zero = first_at field
all_after field (suc index) = ap (position_of field) (sym (add-one index)) ∙ next_from field index
    ∙ ap (next_position field.order) (all_after field index)
