-- The CAN identifier of a frame represents an identifier.
use Rattle.std.proofs.Common.{◌≡◌, ℕ, ◌+◌, ◌^◌, ◌/◌, ◌%◌, ◌<◌, ◌≤◌, false, refl, inl, inr, arith}
use Rattle.std.proofs.lemmas.Bool.{cases_Bool}
use Rattle.std.proofs.lemmas.Bool.Decides.{nat_tests}
use Rattle.can_frames.specs.Frames.{Frame, IsFrame, number_of}
use Rattle.can_entries.specs.Groups.{is_bad_number}

wide_number : (n : ℕ) → n < 2 ^ 29 → is_bad_number (n + 2 ^ 31) ≡ false
unfolding is_bad_number
wide_number n small =
    let wide : (n + 2 ^ 31) / 2 ^ 31 % 2 ≡ 1 = omega arith in
    let none : (n + 2 ^ 31) / 2 ^ 29 % 4 ≡ 0 = omega arith in
    rw (wide, none) refl

short_number : (n : ℕ) → n ≤ 2047 → is_bad_number (n + 0) ≡ false
unfolding is_bad_number
short_number n small =
    let short : (n + 0) / 2 ^ 31 % 2 ≡ 0 = omega arith in
    rw short (grind (arith, nat_tests))

pub good_number : (frame : Frame) → IsFrame frame → is_bad_number (number_of frame) ≡ false
good_number frame is = elim (cases_Bool frame.extended) [
  | inl extended ↦ rw extended (wide_number frame.identifier is.0)
  | inr short ↦ rw short (short_number frame.identifier (is.1 short))
]
