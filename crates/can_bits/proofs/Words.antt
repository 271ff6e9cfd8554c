-- The bits of eight bytes, as those of one word.
use Rattle.std.proofs.Common.{rules, ◌⊎◌, ◌≡◌, ℕ, zero, suc, ◌+◌, ◌-◌, ◌*◌, ◌/◌, ◌%◌, ◌^◌, ◌<◌, ◌≤◌, List, length, take}
use Rattle.std.proofs.Common.{slice_index, bit_and, Bool, true, false, if◌then◌else◌, inl, inr, refl, sym, ap, ◌∙◌, arith}
use Rattle.std.specs.Int.{w64, to_le_bytes, to_be_bytes, from_le_bytes, from_be_bytes}
use Rattle.std.proofs.lemmas.Nat.{shr-shr, and_mask, le_bytes_8, be_bytes_8}
use Rattle.std.proofs.lemmas.Bool.{cases_lt}
use Rattle.std.proofs.lemmas.List.{get_or-take, get_or_past}
use Rattle.dbc_records.specs.Records.{is_intel}
use Rattle.can_bits.specs.declared.field.Field.{Field}
use Rattle.can_bits.specs.Bits.{mirrored, bit_of, bit_at, bits_of, counted, unsigned_raw}
use Rattle.can_bits.specs.Windows.{bits_in}
use Rattle.can_bits.proofs.Runs.{rising, falling}

-- ---- bytes of a word

lowest_first : (n i : ℕ) → i < 8 → slice_index (to_le_bytes w64 n) i ≡ n / 2 ^ (8 * i) % 256
lowest_first n zero within = let same : n % 256 ≡ n / 1 % 256 = omega arith in same
lowest_first n (suc zero) within = refl
lowest_first n (suc (suc zero)) within = refl
lowest_first n (suc (suc (suc zero))) within = refl
lowest_first n (suc (suc (suc (suc zero)))) within = refl
lowest_first n (suc (suc (suc (suc (suc zero))))) within = refl
lowest_first n (suc (suc (suc (suc (suc (suc zero)))))) within = refl
lowest_first n (suc (suc (suc (suc (suc (suc (suc zero))))))) within = refl
lowest_first n (suc (suc (suc (suc (suc (suc (suc (suc i)))))))) within = absurd (omega arith)

highest_first : (n i : ℕ) → i < 8 → slice_index (to_be_bytes w64 n) i ≡ n / 2 ^ (8 * (7 - i)) % 256
highest_first n zero within = refl
highest_first n (suc zero) within = refl
highest_first n (suc (suc zero)) within = refl
highest_first n (suc (suc (suc zero))) within = refl
highest_first n (suc (suc (suc (suc zero)))) within = refl
highest_first n (suc (suc (suc (suc (suc zero))))) within = refl
highest_first n (suc (suc (suc (suc (suc (suc zero)))))) within = refl
highest_first n (suc (suc (suc (suc (suc (suc (suc zero))))))) within = let same : n % 256 ≡ n / 1 % 256 = omega arith in same
highest_first n (suc (suc (suc (suc (suc (suc (suc (suc i)))))))) within = absurd (omega arith)

-- ---- bits of a byte

bit_of_low : (n r : ℕ) → r < 8 → n % 256 / 2 ^ r % 2 ≡ n / 2 ^ r % 2
bit_of_low n zero within = omega arith
bit_of_low n (suc zero) within = omega arith
bit_of_low n (suc (suc zero)) within = omega arith
bit_of_low n (suc (suc (suc zero))) within = omega arith
bit_of_low n (suc (suc (suc (suc zero)))) within = omega arith
bit_of_low n (suc (suc (suc (suc (suc zero))))) within = omega arith
bit_of_low n (suc (suc (suc (suc (suc (suc zero)))))) within = omega arith
bit_of_low n (suc (suc (suc (suc (suc (suc (suc zero))))))) within = omega arith
bit_of_low n (suc (suc (suc (suc (suc (suc (suc (suc r)))))))) within = absurd (omega arith)

-- a bit of the byte that begins at bit `low` of a number
bit_of_byte : (n low r : ℕ) → r < 8 → n / 2 ^ low % 256 / 2 ^ r % 2 ≡ n / 2 ^ (low + r) % 2
bit_of_byte n low r within = bit_of_low (n / 2 ^ low) r within ∙ ap (λ (k : ℕ). k % 2) (shr-shr n low r)

module _ (bytes : List ℕ) (small : (i : ℕ) → slice_index bytes i < 256) (enough : 8 ≤ length bytes) where
  first_byte : (i : ℕ) → i < 8 → slice_index (take 8 bytes) i ≡ slice_index bytes i
  first_byte i within = get_or-take 8 bytes i 0 within

  eight : length (take 8 bytes) ≡ 8
  eight = search rules

  small_first : (i : ℕ) → slice_index (take 8 bytes) i < 256
  small_first i = elim (cases_lt i 8) [
    | inl within ↦ let low = small i in rw (first_byte i within) low
    | inr past ↦ let none : slice_index (take 8 bytes) i ≡ 0 = get_or_past (take 8 bytes) i 0 (omega (arith, past, eight)) in
        omega (arith, none)
  ]

  intel_bit : (p : ℕ) → p < 64 → bit_of bytes p ≡ from_le_bytes w64 (take 8 bytes) / 2 ^ p % 2
  intel_bit p within =
      let n : ℕ = from_le_bytes w64 (take 8 bytes) in
      let same : to_le_bytes w64 n ≡ take 8 bytes = le_bytes_8 (take 8 bytes) n eight small_first refl in
      let byte : slice_index bytes (p / 8) ≡ n / 2 ^ (8 * (p / 8)) % 256 =
      sym (first_byte (p / 8) (omega arith)) ∙ ap (λ (bs : List ℕ). slice_index bs (p / 8)) (sym same)
      ∙ lowest_first n (p / 8) (omega arith) in
      ap (λ (b : ℕ). b / 2 ^ (p % 8) % 2) byte ∙ bit_of_byte n (8 * (p / 8)) (p % 8) (omega arith)
      ∙ ap (λ (k : ℕ). n / 2 ^ k % 2) (omega arith)

  motorola_bit : (q : ℕ) → q < 64 → bit_of bytes (mirrored q) ≡ from_be_bytes w64 (take 8 bytes) / 2 ^ (63 - q) % 2
  motorola_bit q within =
      let n : ℕ = from_be_bytes w64 (take 8 bytes) in
      let p : ℕ = mirrored q in
      let same : to_be_bytes w64 n ≡ take 8 bytes = be_bytes_8 (take 8 bytes) n eight small_first refl in
      let byte : slice_index bytes (p / 8) ≡ n / 2 ^ (8 * (7 - p / 8)) % 256 =
      sym (first_byte (p / 8) (omega arith)) ∙ ap (λ (bs : List ℕ). slice_index bs (p / 8)) (sym same)
      ∙ highest_first n (p / 8) (omega arith) in
      ap (λ (b : ℕ). b / 2 ^ (p % 8) % 2) byte ∙ bit_of_byte n (8 * (7 - p / 8)) (p % 8) (omega arith)
      ∙ ap (λ (k : ℕ). n / 2 ^ k % 2) (omega arith)

  -- ---- fields

  masked : (word shift length : ℕ) → bit_and (word / 2 ^ shift) (2 ^ length - 1) ≡ word / 2 ^ shift % 2 ^ length * 2 ^ 0
  masked word shift length = and_mask (word / 2 ^ shift) length
      ∙ (let one : word / 2 ^ shift % 2 ^ length ≡ word / 2 ^ shift % 2 ^ length * 2 ^ 0 = omega arith in one)

  intel_window : (field : Field) → is_intel field.order ≡ true → field.start + field.length ≤ 64
      → bit_and (from_le_bytes w64 (take 8 bytes) / 2 ^ field.start) (2 ^ field.length - 1) ≡ unsigned_raw bytes (bits_of field)
  unfolding bits_of
  intel_window field intel within =
      let word : ℕ = from_le_bytes w64 (take 8 bytes) in
      masked word field.start field.length
      ∙ sym (rising (counted bytes) (bit_at field) word 0 field.start 0 field.length (λ j h.
      let bit : bit_of bytes (field.start + (0 + j)) ≡ word / 2 ^ (field.start + j) % 2 = ap (bit_of bytes) (omega arith)
      ∙ intel_bit (field.start + j) (omega arith) in
      rw (intel, bit) refl))

  motorola_window : (field : Field) → is_intel field.order ≡ false → mirrored field.start + field.length ≤ 64
      → bit_and (from_be_bytes w64 (take 8 bytes) / 2 ^ (64 - (mirrored field.start + field.length))) (2 ^ field.length - 1)
      ≡ unsigned_raw bytes (bits_of field)
  unfolding bits_of
  motorola_window field motorola within =
      let word : ℕ = from_be_bytes w64 (take 8 bytes) in
      let q : ℕ = mirrored field.start in
      let low : ℕ = 64 - (q + field.length) in
      masked word low field.length
      ∙ sym (falling (counted bytes) (bit_at field) word 0 low 0 field.length (λ j k h.
      let bit : bit_of bytes (mirrored (q + (0 + j))) ≡ word / 2 ^ (low + k) % 2 =
      ap (λ (m : ℕ). bit_of bytes (mirrored m)) (omega arith) ∙ motorola_bit (q + j) (omega arith)
      ∙ ap (λ (m : ℕ). word / 2 ^ m % 2) (omega arith) in
      let weighs : field.length - 1 - (0 + j) ≡ 0 + k = omega arith in
      rw (motorola, bit, weighs) refl))

  abbrev ordered : Bool → ℕ
  ordered intel = if intel then from_le_bytes w64 (take 8 bytes) else from_be_bytes w64 (take 8 bytes)

  pub in_window : (field : Field) (shift mask : ℕ) → mask ≡ 2 ^ field.length - 1
      → ((is_intel field.order ≡ true) × (shift ≡ field.start) × (field.start + field.length ≤ 64))
      ⊎ ((is_intel field.order ≡ false) × (shift ≡ 64 - (mirrored field.start + field.length))
      × (mirrored field.start + field.length ≤ 64))
      → bits_in (take 8 bytes) (record { order = field.order; shift = shift; mask = mask }) ≡ unsigned_raw bytes (bits_of field)
  in_window field shift mask ones (inl (intel, at, within)) =
      ap (λ (b : Bool). bit_and (ordered b / 2 ^ shift) mask) intel
      ∙ ap (λ (k : ℕ). bit_and (from_le_bytes w64 (take 8 bytes) / 2 ^ k) mask) at
      ∙ ap (bit_and (from_le_bytes w64 (take 8 bytes) / 2 ^ field.start)) ones
      ∙ intel_window field intel within
  in_window field shift mask ones (inr (motorola, at, within)) =
      ap (λ (b : Bool). bit_and (ordered b / 2 ^ shift) mask) motorola
      ∙ ap (λ (k : ℕ). bit_and (from_be_bytes w64 (take 8 bytes) / 2 ^ k) mask) at
      ∙ ap (bit_and (from_be_bytes w64 (take 8 bytes) / 2 ^ (64 - (mirrored field.start + field.length)))) ones
      ∙ motorola_window field motorola within
