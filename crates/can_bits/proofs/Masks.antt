-- What a mask of adjacent ones leaves of a byte, and where a shift takes it.
use Rattle.std.proofs.Common.{◌≡◌, ℕ, ◌+◌, ◌-◌, ◌*◌, ◌/◌, ◌%◌, ◌^◌, ◌<◌, ◌≤◌, sym, ap, ◌∙◌, arith, bit_and}
use Rattle.std.proofs.Math.Nat.{pow-le-pow_right, mul-le-mul_right, mod-eq_of_lt, one-le-pow, mul_assoc, mul_comm, mul-sub, one-mul}
use Rattle.std.proofs.lemmas.Nat.{pow-add, shl-shr, and_le_r}
use Rattle.std.proofs.lemmas.Nat.Bits.{ones_shr, and_high}
use Rattle.can_bits.specs.declared.step.Shift.{Shift}
use Rattle.can_bits.specs.declared.step.Shift.TheVariants.{Up, Down}
use Rattle.can_bits.specs.Steps.{StaysInWord}

times_less : (a b c : ℕ) → (a - b) * c ≡ a * c - b * c
times_less a b c = mul_comm (a - b) c ∙ mul-sub c a b ∙ ap (λ (n : ℕ). n - c * b) (mul_comm c a)
    ∙ ap (λ (n : ℕ). a * c - n) (mul_comm c b)

-- the shifts of a full byte that make a mask of `run` ones from bit `low` up
pub mask_is : (low run : ℕ) → low + run ≤ 8 → 255 / 2 ^ (8 - run) * 2 ^ low % 256 ≡ 2 ^ (run + low) - 2 ^ low
mask_is low run within =
    let back : 8 - (8 - run) ≡ run = omega arith in
    let ones : 255 / 2 ^ (8 - run) ≡ 2 ^ run - 1 = ones_shr 8 (8 - run) (omega arith) ∙ ap (λ (n : ℕ). 2 ^ n - 1) back in
    let apart : 2 ^ (run + low) ≡ 2 ^ run * 2 ^ low = pow-add 2 run low in
    let small : 2 ^ (run + low) ≤ 2 ^ 8 = let few : run + low ≤ 8 = omega arith in pow-le-pow_right {n = 2} (omega arith) few in
    let some : 1 ≤ 2 ^ run = one-le-pow run 2 (omega arith) in
    let some_low : 1 ≤ 2 ^ low = one-le-pow low 2 (omega arith) in
    let product : (2 ^ run - 1) * 2 ^ low ≡ 2 ^ (run + low) - 2 ^ low = times_less (2 ^ run) 1 (2 ^ low)
    ∙ ap (λ (n : ℕ). 2 ^ run * 2 ^ low - n) (one-mul (2 ^ low)) ∙ ap (λ (n : ℕ). n - 2 ^ low) (sym apart) in
    let below : 2 ^ (run + low) - 2 ^ low < 256 = omega arith in
    ap (λ (n : ℕ). n * 2 ^ low % 256) ones ∙ ap (λ (n : ℕ). n % 256) product ∙ mod-eq_of_lt below

-- what the mask leaves, shifted left, is the number in those bits times the weight of the lowest
pub moved_up : (n low run weight : ℕ) → low ≤ weight → bit_and n (2 ^ (run + low) - 2 ^ low) * 2 ^ (weight - low)
    ≡ n / 2 ^ low % 2 ^ run * 2 ^ weight
moved_up n low run weight up =
    let apart : 2 ^ low * 2 ^ (weight - low) ≡ 2 ^ weight = sym (pow-add 2 low (weight - low))
    ∙ ap (λ (k : ℕ). 2 ^ k) (omega arith) in
    ap (λ (k : ℕ). k * 2 ^ (weight - low)) (and_high n run low) ∙ mul_assoc (n / 2 ^ low % 2 ^ run) (2 ^ low) (2 ^ (weight - low))
    ∙ ap (λ (k : ℕ). n / 2 ^ low % 2 ^ run * k) apart

-- and likewise shifted right
pub moved_down : (n low run weight : ℕ) → weight < low → bit_and n (2 ^ (run + low) - 2 ^ low) / 2 ^ (low - weight)
    ≡ n / 2 ^ low % 2 ^ run * 2 ^ weight
moved_down n low run weight down =
    let apart : 2 ^ low ≡ 2 ^ weight * 2 ^ (low - weight) = ap (λ (k : ℕ). 2 ^ k) (omega arith) ∙ pow-add 2 weight (low - weight) in
    let whole : bit_and n (2 ^ (run + low) - 2 ^ low) ≡ n / 2 ^ low % 2 ^ run * 2 ^ weight * 2 ^ (low - weight) =
    and_high n run low ∙ ap (λ (k : ℕ). n / 2 ^ low % 2 ^ run * k) apart
    ∙ sym (mul_assoc (n / 2 ^ low % 2 ^ run) (2 ^ weight) (2 ^ (low - weight))) in
    ap (λ (k : ℕ). k / 2 ^ (low - weight)) whole ∙ shl-shr (n / 2 ^ low % 2 ^ run * 2 ^ weight) (low - weight)

-- a left shift loses no bit if the top one is within 64
pub mask_stays : (low run weight : ℕ) → low ≤ weight → weight + run ≤ 64 → 0 < run
    → (2 ^ (run + low) - 2 ^ low) * 2 ^ (weight - low) < 2 ^ 64
mask_stays low run weight up top some =
    let all : 2 ^ (run + low) * 2 ^ (weight - low) ≡ 2 ^ (weight + run) = sym (pow-add 2 (run + low) (weight - low))
    ∙ ap (λ (k : ℕ). 2 ^ k) (omega arith) in
    let part : 2 ^ low * 2 ^ (weight - low) ≡ 2 ^ weight = sym (pow-add 2 low (weight - low))
    ∙ ap (λ (k : ℕ). 2 ^ k) (omega arith) in
    let small : 2 ^ (weight + run) ≤ 2 ^ 64 = pow-le-pow_right {n = 2} (omega arith) top in
    let positive : 1 ≤ 2 ^ weight = one-le-pow weight 2 (omega arith) in
    let product : (2 ^ (run + low) - 2 ^ low) * 2 ^ (weight - low) ≡ 2 ^ (run + low) * 2 ^ (weight - low) - 2 ^ low * 2 ^
    (weight - low) = times_less (2 ^ (run + low)) (2 ^ low) (2 ^ (weight - low)) in
    omega arith

-- nor does it lose one of the bits under the mask
pub fewer_stay : (shift : Shift) (n mask : ℕ) → StaysInWord shift mask → StaysInWord shift (bit_and n mask)
fewer_stay (Up indexes) n mask stays = (
  stays.0,
  let less : bit_and n mask * 2 ^ indexes ≤ mask * 2 ^ indexes = mul-le-mul_right
      (2 ^ indexes) (and_le_r n mask) in omega (arith, stays.1),
)
fewer_stay (Down indexes) n mask stays = stays
