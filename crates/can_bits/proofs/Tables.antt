-- How a table of cells changes when fields are marked.
use Rattle.std.proofs.Common.{◌≡◌, ℕ, zero, suc, ◌+◌, ◌*◌, ◌<◌, ◌≤◌, ◌==◌, ◌&&◌, ◌||◌, nat_le, nat_lt, min, Bool, true, false}
use Rattle.std.proofs.Common.{if◌then◌else◌, sym, ap, ◌∙◌, arith}
use Rattle.std.specs.List.{list_any, range_with_len}
use Rattle.dbc_records.specs.declared.byte_order.ByteOrder.{ByteOrder}
use Rattle.dbc_records.specs.declared.byte_order.ByteOrder.TheVariants as orders
use Rattle.dbc_records.specs.Records.{is_intel}
use Rattle.can_bits.specs.declared.field.Field.{Field}
use Rattle.can_bits.specs.Bits.{mirrored, position_of, has_position}
use Rattle.can_bits.specs.Steps.{passed_at}
use Rattle.can_bits.specs.Cells.{numbered}

-- whether a number is from `first` up to `end`
abbrev pub covers : ℕ → ℕ → ℕ → Bool
covers first end n = nat_le first n && nat_lt n end

covers_none : (first n : ℕ) → covers first first n ≡ false
covers_none first n = grind arith

covers_first : (first end n : ℕ) → first < end → ((first == n) || covers (first + 1) end n) ≡ covers first end n
covers_first first end n some = grind arith

pub covers_here : (first n : ℕ) → first ≤ n → covers first (n + 1) n ≡ true
covers_here first n h = grind arith

pub covers_not_yet : (first n : ℕ) → covers first n n ≡ false
covers_not_yet first n = grind arith

pub covers_others : (first end n : ℕ) → (n ≡ end → ⊥) → covers first (end + 1) n ≡ covers first end n
covers_others first end n other = grind arith

pub covers_all : (first long top end passed n : ℕ) → n < top → end ≡ min (first + long) top → end ≤ passed
    → (first ≤ end → passed ≤ end) → covers first passed n ≡ covers first (first + long) n
covers_all first long top end passed n within ends done no_further = grind arith

same_test : (a b c d : ℕ) → (a ≡ b → c ≡ d) → (c ≡ d → a ≡ b) → (a == b) ≡ (c == d)
same_test a b c d on back = grind arith

-- a run of numbers, found one by one
any_run : (test : ℕ → Bool) (first n : ℕ) → ((index : ℕ) → test index ≡ (first + index == n)) → (index count : ℕ)
    → list_any test (range_with_len index count) ≡ covers (first + index) (first + index + count) n
any_run test first n each index zero =
    let none : first + index + 0 ≡ first + index = omega arith in
    rw none (sym (covers_none (first + index) n))
any_run test first n each index (suc count) =
    let next : first + (index + 1) ≡ first + index + 1 = omega arith in
    let end : first + index + 1 + count ≡ first + index + suc count = omega arith in
    let later : list_any test (range_with_len (index + 1) count) ≡ covers (first + index + 1) (first + index + suc count) n =
    any_run test first n each (index + 1) count ∙ ap (λ (k : ℕ). covers k (k + count) n) next
    ∙ ap (λ (k : ℕ). covers (first + index + 1) k n) end in
    rw (each index, later) (covers_first (first + index) (first + index + suc count) n (omega arith))

mirrored_twice : (n : ℕ) → mirrored (mirrored n) ≡ n
mirrored_twice n = omega arith

same_index : (order : ByteOrder) (start index position : ℕ)
    → ((if is_intel order then start + index else mirrored (mirrored start + index)) == position)
    ≡ ((if is_intel order then start + 0 else mirrored start + 0) + index == numbered order position)
same_index orders.Intel start index position =
    same_test (start + index) position (start + 0 + index) position (λ h. omega (arith, h)) (λ h. omega (arith, h))
same_index orders.Motorola start index position =
    same_test (mirrored (mirrored start + index)) position (mirrored start + 0 + index) (mirrored position)
    (λ h. let back : mirrored (mirrored (mirrored start + index)) ≡ mirrored position = ap mirrored h in
    let none : mirrored start + 0 + index ≡ mirrored start + index = omega arith in none
    ∙ sym (mirrored_twice (mirrored start + index)) ∙ back)
    (λ h. let none : mirrored start + index ≡ mirrored start + 0 + index = omega arith in ap mirrored none ∙ ap mirrored h
    ∙ mirrored_twice position)

-- a field has the position exactly when its number is one of a run
pub has_position_is : (field : Field) (position : ℕ) → has_position field position ≡ covers (passed_at field 0)
    (passed_at field 0 + field.length) (numbered field.order position)
has_position_is field position =
    let none : passed_at field 0 + 0 ≡ passed_at field 0 = omega arith in
    any_run (λ index. position_of field index == position) (passed_at field 0) (numbered field.order position)
    (λ index. same_index field.order field.start index position) 0 field.length
    ∙ ap (λ (k : ℕ). covers k (k + field.length) (numbered field.order position)) none

pub numbered_within : (order : ByteOrder) (position size : ℕ) → position < 8 * size → numbered order position < 8 * size
numbered_within orders.Intel position size within = within
numbered_within orders.Motorola position size within = omega (arith, within)
