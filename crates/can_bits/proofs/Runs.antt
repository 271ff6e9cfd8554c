-- The bits of a field that are in one byte count together as a part of that byte, shifted.
use Rattle.std.proofs.Common.{◌≡◌, ℕ, zero, suc, ◌+◌, ◌-◌, ◌*◌, ◌/◌, ◌%◌, ◌^◌, ◌<◌, ◌≤◌, List, map, slice_index, true, false}
use Rattle.std.proofs.Common.{if◌then◌else◌, refl, sym, ap, ◌∙◌, add-one, arith}
use Rattle.std.specs.List.{range_with_len, sum_by}
use Rattle.std.proofs.lemmas.List.Sums.{sum_by-cons}
use Rattle.std.proofs.lemmas.Nat.{mod-pow-add, shr-shr, pow-add}
use Rattle.std.proofs.Math.Nat.{mod-one, mul-le-mul_left}
use Rattle.dbc_records.specs.Records.{is_intel}
use Rattle.can_bits.specs.declared.field.Field.{Field}
use Rattle.can_bits.specs.declared.step.Step.{Step}
use Rattle.can_bits.specs.Steps.{part_of, passed_at, IsStep, IsRun}
use Rattle.can_bits.specs.Bits.{mirrored, bit_at, bits_from, counted, unsigned_raw}

-- a part of a number is its lowest bit and the part above
low_first : (x low n w : ℕ) → x / 2 ^ low % 2 ^ (n + 1) * 2 ^ w ≡ 2 ^ w * (x / 2 ^ low % 2) + x / 2 ^ (low + 1) % 2 ^ n * 2 ^
    (w + 1)
low_first x low n w =
    let split : x / 2 ^ low % 2 ^ (n + 1) ≡ x / 2 ^ low / 2 ^ 1 % 2 ^ n * 2 ^ 1 + x / 2 ^ low % 2 ^ 1 =
    mod-pow-add (x / 2 ^ low) n 1 in
    let next : x / 2 ^ low / 2 ^ 1 ≡ x / 2 ^ (low + 1) = shr-shr x low 1 in
    let double : 2 ^ (w + 1) ≡ 2 ^ w * 2 = pow-add 2 w 1 in
    let product : (a b q : ℕ) → (a * 2 + b) * q ≡ q * b + a * (q * 2) = λ a b q. omega arith in
    ap (λ (k : ℕ). k * 2 ^ w) (split ∙ ap (λ (k : ℕ). k % 2 ^ n * 2 + x / 2 ^ low % 2) next)
    ∙ product (x / 2 ^ (low + 1) % 2 ^ n) (x / 2 ^ low % 2) (2 ^ w)
    ∙ ap (λ (k : ℕ). 2 ^ w * (x / 2 ^ low % 2) + x / 2 ^ (low + 1) % 2 ^ n * k) (sym double)

-- and it is its highest bit and the part below
high_first : (x low n w : ℕ) → x / 2 ^ low % 2 ^ (n + 1) * 2 ^ w ≡ 2 ^ (w + n) * (x / 2 ^ (low + n) % 2) + x / 2 ^ low % 2 ^ n *
    2 ^ w
high_first x low n w =
    let turned : n + 1 ≡ 1 + n = omega arith in
    let split : x / 2 ^ low % 2 ^ (1 + n) ≡ x / 2 ^ low / 2 ^ n % 2 ^ 1 * 2 ^ n + x / 2 ^ low % 2 ^ n =
    mod-pow-add (x / 2 ^ low) 1 n in
    let next : x / 2 ^ low / 2 ^ n ≡ x / 2 ^ (low + n) = shr-shr x low n in
    let apart : 2 ^ (w + n) ≡ 2 ^ w * 2 ^ n = pow-add 2 w n in
    let product : (b p r q : ℕ) → (b * p + r) * q ≡ q * p * b + r * q = λ b p r q. omega arith in
    ap (λ (k : ℕ). x / 2 ^ low % 2 ^ k * 2 ^ w) turned
    ∙ ap (λ (k : ℕ). k * 2 ^ w) (split ∙ ap (λ (k : ℕ). k % 2 * 2 ^ n + x / 2 ^ low % 2 ^ n) next)
    ∙ product (x / 2 ^ (low + n) % 2) (2 ^ n) (x / 2 ^ low % 2 ^ n) (2 ^ w)
    ∙ ap (λ (k : ℕ). k * (x / 2 ^ (low + n) % 2) + x / 2 ^ low % 2 ^ n * 2 ^ w) (sym apart)

module _ {X : Type 0} (count : X → ℕ) (at : ℕ → X) (x : ℕ) where
  -- if the next position is the next bit up
  pub rising : (index low w n : ℕ) → ((j : ℕ) → j < n → count (at (index + j)) ≡ 2 ^ (w + j) * (x / 2 ^ (low + j) % 2))
      → sum_by count (map at (range_with_len index n)) ≡ x / 2 ^ low % 2 ^ n * 2 ^ w
  rising index low w zero each = let none : x / 2 ^ low % 1 ≡ 0 = mod-one (x / 2 ^ low) in rw none (omega arith)
  rising index low w (suc n) each =
      let first : count (at index) ≡ 2 ^ w * (x / 2 ^ low % 2) =
      ap (λ (k : ℕ). count (at k)) (omega arith) ∙ each 0 (omega arith) ∙ ap (λ (k : ℕ). 2 ^ k * (x / 2 ^ (low + 0) % 2))
      (omega arith) ∙ ap (λ (k : ℕ). 2 ^ w * (x / 2 ^ k % 2)) (omega arith) in
      let rest : sum_by count (map at (range_with_len (index + 1) n)) ≡ x / 2 ^ (low + 1) % 2 ^ n * 2 ^ (w + 1) =
      rising (index + 1) (low + 1) (w + 1) n (λ j h.
      ap (λ (k : ℕ). count (at k)) (omega arith) ∙ each (1 + j) (omega arith)
      ∙ ap (λ (k : ℕ). 2 ^ k * (x / 2 ^ (low + (1 + j)) % 2)) (omega arith) ∙ ap (λ (k : ℕ). 2 ^ (w + 1 + j) * (x / 2 ^ k % 2))
      (omega arith)) in
      sum_by-cons count (at index) (map at (range_with_len (index + 1) n))
      ∙ ap (λ (k : ℕ). k + sum_by count (map at (range_with_len (index + 1) n))) first
      ∙ ap (λ (k : ℕ). 2 ^ w * (x / 2 ^ low % 2) + k) rest
      ∙ sym (low_first x low n w)
      ∙ ap (λ (k : ℕ). x / 2 ^ low % 2 ^ k * 2 ^ w) (add-one n)

  -- if the next position is the next bit down
  pub falling : (index low w n : ℕ) → ((j k : ℕ) → j + k + 1 ≡ n → count (at (index + j)) ≡ 2 ^ (w + k) * (x / 2 ^ (low + k) % 2))
      → sum_by count (map at (range_with_len index n)) ≡ x / 2 ^ low % 2 ^ n * 2 ^ w
  falling index low w zero each = let none : x / 2 ^ low % 1 ≡ 0 = mod-one (x / 2 ^ low) in rw none (omega arith)
  falling index low w (suc n) each =
      let first : count (at index) ≡ 2 ^ (w + n) * (x / 2 ^ (low + n) % 2) =
      ap (λ (k : ℕ). count (at k)) (omega arith) ∙ each 0 n (omega arith) in
      let rest : sum_by count (map at (range_with_len (index + 1) n)) ≡ x / 2 ^ low % 2 ^ n * 2 ^ w =
      falling (index + 1) low w n (λ j k h. ap (λ (i : ℕ). count (at i)) (omega arith) ∙ each (1 + j) k (omega arith)) in
      sum_by-cons count (at index) (map at (range_with_len (index + 1) n))
      ∙ ap (λ (k : ℕ). k + sum_by count (map at (range_with_len (index + 1) n))) first
      ∙ ap (λ (k : ℕ). 2 ^ (w + n) * (x / 2 ^ (low + n) % 2) + k) rest
      ∙ sym (high_first x low n w)
      ∙ ap (λ (k : ℕ). x / 2 ^ low % 2 ^ k * 2 ^ w) (add-one n)

-- so it is in Intel byte order, as long as the byte is not left
pub intel_run : (bytes : List ℕ) (field : Field) (index n : ℕ) → is_intel field.order ≡ true → (field.start + index) % 8 + n ≤ 8
    → unsigned_raw bytes (bits_from field index n) ≡ slice_index bytes ((field.start + index) / 8) / 2 ^ ((field.start + index) % 8)
    % 2 ^ n * 2 ^ index
intel_run bytes field index n intel within =
    let p : ℕ = field.start + index in
    rising (counted bytes) (bit_at field) (slice_index bytes (p / 8)) index (p % 8) index n (λ j h.
    let byte : (field.start + (index + j)) / 8 ≡ (field.start + index) / 8 = omega arith in
    let bit : (field.start + (index + j)) % 8 ≡ (field.start + index) % 8 + j = omega arith in
    rw (intel, byte, bit) refl)

-- and in Motorola byte order
pub motorola_run : (bytes : List ℕ) (field : Field) (index n low weight : ℕ) → is_intel field.order ≡ false
    → (mirrored field.start + index) % 8 + n + low ≡ 8 → index + n + weight ≡ field.length
    → unsigned_raw bytes (bits_from field index n) ≡ slice_index bytes ((mirrored field.start + index) / 8) / 2 ^ low % 2 ^ n * 2 ^
    weight
motorola_run bytes field index n low weight motorola within left =
    let q : ℕ = mirrored field.start in
    falling (counted bytes) (bit_at field) (slice_index bytes ((q + index) / 8)) index low weight n (λ j k h.
    let byte : mirrored (q + (index + j)) / 8 ≡ (q + index) / 8 = omega arith in
    let bit : mirrored (q + (index + j)) % 8 ≡ low + k = omega arith in
    let weighs : field.length - 1 - (index + j) ≡ weight + k = omega arith in
    rw (motorola, byte, bit, weighs) refl)

-- the sum over adjacent runs of positions
pub runs_join : {X : Type 0} (count : X → ℕ) (at : ℕ → X) (index m n : ℕ)
    → sum_by count (map at (range_with_len index (m + n))) ≡ sum_by count (map at (range_with_len index m)) + sum_by count
    (map at (range_with_len (index + m) n))
runs_join count at index zero n = let few : 0 + n ≡ n = omega arith in let here : index + 0 ≡ index = omega arith in
    rw (few, here) (omega arith)
runs_join count at index (suc m) n =
    let few : suc m + n ≡ suc (m + n) = omega arith in
    let here : index + suc m ≡ index + 1 + m = omega arith in
    rw (
      few,
      here,
      sum_by-cons count (at index) (map at (range_with_len (index + 1) (m + n))),
      sum_by-cons count (at index) (map at (range_with_len (index + 1) m)),
      runs_join count at (index + 1) m n,
    ) (omega arith)

-- the raw value of the first positions and of a run after them
pub more_bits : (bytes : List ℕ) (field : Field) (index n : ℕ)
    → unsigned_raw bytes (bits_from field 0 (index + n)) ≡ unsigned_raw bytes (bits_from field 0 index) + unsigned_raw bytes
    (bits_from field index n)
more_bits bytes field index n =
    runs_join (counted bytes) (bit_at field) 0 index n ∙ ap (λ (k : ℕ). unsigned_raw bytes (bits_from field 0 index) + unsigned_raw
    bytes (bits_from field k n)) (omega arith)

-- ---- bounds of raw values

pub bit_counts : (weight n : ℕ) → weight * (n % 2) ≤ weight
bit_counts weight n = let small : n % 2 ≤ 1 = omega arith in let all : weight * (n % 2) ≤ weight * 1 =
    mul-le-mul_left weight small in omega arith

module _ {X : Type 0} (count : X → ℕ) (at : ℕ → X) where
  pub rising_below : (index n : ℕ) → ((j : ℕ) → j < n → count (at (index + j)) ≤ 2 ^ (index + j))
      → sum_by count (map at (range_with_len index n)) + 2 ^ index ≤ 2 ^ (index + n)
  rising_below index zero each = let same : 2 ^ index ≡ 2 ^ (index + 0) = ap (λ (k : ℕ). 2 ^ k) (omega arith) in omega arith
  rising_below index (suc n) each =
      let here : index + 0 ≡ index = omega arith in
      let first : count (at index) ≤ 2 ^ index = rw here at (each 0 (omega arith)) in
      let rest : sum_by count (map at (range_with_len (index + 1) n)) + 2 ^ (index + 1) ≤ 2 ^ (index + 1 + n) =
      rising_below (index + 1) n (λ j h. let later : index + 1 + j ≡ index + (1 + j) = omega arith in
      rw later (each (1 + j) (omega arith))) in
      let double : 2 ^ (index + 1) ≡ 2 ^ index * 2 = pow-add 2 index 1 in
      let end : 2 ^ (index + 1 + n) ≡ 2 ^ (index + suc n) = ap (λ (k : ℕ). 2 ^ k) (omega arith) in
      let both : sum_by count (map at (range_with_len index (suc n))) ≡ count (at index) + sum_by count
      (map at (range_with_len (index + 1) n)) = sum_by-cons count (at index) (map at (range_with_len (index + 1) n)) in
      rw both (omega (arith, first, rest, double, end))

  pub falling_below : (index n : ℕ) → ((j k : ℕ) → j + k + 1 ≡ n → count (at (index + j)) ≤ 2 ^ k)
      → sum_by count (map at (range_with_len index n)) < 2 ^ n
  falling_below index zero each = omega arith
  falling_below index (suc n) each =
      let here : index + 0 ≡ index = omega arith in
      let first : count (at index) ≤ 2 ^ n = rw here at (each 0 n (omega arith)) in
      let rest : sum_by count (map at (range_with_len (index + 1) n)) < 2 ^ n =
      falling_below (index + 1) n (λ j k h. let later : index + 1 + j ≡ index + (1 + j) = omega arith in
      rw later (each (1 + j) k (omega arith))) in
      let double : 2 ^ (n + 1) ≡ 2 ^ n * 2 = pow-add 2 n 1 in
      let end : 2 ^ (n + 1) ≡ 2 ^ suc n = ap (λ (k : ℕ). 2 ^ k) (omega arith) in
      let both : sum_by count (map at (range_with_len index (suc n))) ≡ count (at index) + sum_by count
      (map at (range_with_len (index + 1) n)) = sum_by-cons count (at index) (map at (range_with_len (index + 1) n)) in
      rw both (omega (arith, first, rest, double, end))

-- an unsigned raw value fits the length of its field
pub raw_below : (bytes : List ℕ) (field : Field) → unsigned_raw bytes (bits_from field 0 field.length) < 2 ^ field.length
raw_below bytes field = elim (is_intel field.order) as (λ intel. is_intel field.order ≡ intel
    → unsigned_raw bytes (bits_from field 0 field.length) < 2 ^ field.length) [
      | true ↦ λ intel.
          let all : unsigned_raw bytes (bits_from field 0 field.length) + 2 ^ 0 ≤ 2 ^ (0 + field.length) =
          rising_below (counted bytes) (bit_at field) 0 field.length (λ j h. rw intel (bit_counts (2 ^ (0 + j)) _)) in
          let end : 2 ^ (0 + field.length) ≡ 2 ^ field.length = ap (λ (k : ℕ). 2 ^ k) (omega arith) in
          omega arith
      | false ↦ λ motorola.
          falling_below (counted bytes) (bit_at field) 0 field.length (λ j k h.
          let weighs : field.length - 1 - (0 + j) ≡ k = omega arith in
          rw (motorola, weighs) (bit_counts (2 ^ k) _))
    ] refl

-- ---- the steps that the code makes

-- a step in Intel byte order, by what is known where it is made
pub is_intel_run : (field : Field) (index n p : ℕ) (step : Step) → is_intel field.order ≡ true → p ≡ field.start + index
    → p % 8 + n ≤ 8
    → (index + n < field.length → p % 8 + n ≡ 8) → 0 < n → index + n ≤ field.length → IsStep step
    → ((bytes : List ℕ) → part_of bytes step ≡ slice_index bytes (p / 8) / 2 ^ (p % 8) % 2 ^ n * 2 ^ index)
    → IsRun field index step n
is_intel_run field index n p step intel at within fills some inside valid takes =
    record {
      some = some;
      within = inside;
      fills = rw intel (rw at at fills);
      valid = valid;
      same = λ bytes. takes bytes
          ∙ rw at (let within : (field.start + index) % 8 + n ≤ 8 = rw at at within in
          sym (intel_run bytes field index n intel within));
    }

-- a step in Motorola byte order
pub is_motorola_run : (field : Field) (index n q low weight : ℕ) (step : Step) → is_intel field.order ≡ false
    → q ≡ mirrored field.start + index → q % 8 + n + low ≡ 8 → index + n + weight ≡ field.length
    → (index + n < field.length → q % 8 + n ≡ 8) → 0 < n → IsStep step
    → ((bytes : List ℕ) → part_of bytes step ≡ slice_index bytes (q / 8) / 2 ^ low % 2 ^ n * 2 ^ weight) → IsRun field index step n
is_motorola_run field index n q low weight step motorola at within left fills some valid takes =
    record {
      some = some;
      within = omega arith;
      fills = rw motorola (rw at at fills);
      valid = valid;
      same = λ bytes. takes bytes
          ∙ rw at (let within : (mirrored field.start + index) % 8 + n + low ≡ 8 = rw at at within in
          sym (motorola_run bytes field index n low weight motorola within left));
    }

passed_on : (field : Field) (index : ℕ) → passed_at field index ≡ passed_at field 0 + index
passed_on field index = elim (is_intel field.order) as (λ intel.
    (if intel then field.start + index else mirrored field.start + index)
    ≡ (if intel then field.start + 0 else mirrored field.start + 0) + index) [ true ↦ omega arith | false ↦ omega arith ]

-- as long as the field goes on, each step ends its byte, so that their number is that of the bytes passed
pub one_more : (field : Field) (index n count : ℕ) → count ≡ (passed_at field 0 % 8 + index) / 8 → passed_at field index % 8 + n ≡ 8
    → count + 1 ≡ (passed_at field 0 % 8 + (index + n)) / 8
one_more field index n count so_far fills =
    let on : passed_at field index ≡ passed_at field 0 + index = passed_on field index in
    omega (arith, so_far, fills, on)
