-- The bytes of a word that is moved down by whole bytes.
use Rattle.std.proofs.Common.{◌≡◌, ℕ, zero, suc, ◌+◌, ◌-◌, ◌*◌, ◌/◌, ◌%◌, ◌^◌, ◌<◌, ◌≤◌, List, [], ◌∷◌, take, drop}
use Rattle.std.proofs.Common.{refl, sym, ap, ◌∙◌, inl, inr, arith}
use Rattle.std.specs.Prelude.{◌==◌, if◌then◌else◌}
use Rattle.std.proofs.lemmas.Bool.{cases_eq, eq-eqb, ne_eqb}
use Rattle.std.proofs.lemmas.List.{take-take}
use Rattle.std.proofs.lemmas.Nat.{pow-add}
use Rattle.std.proofs.Math.Nat.{div-div-eq-div-mul}
use Rattle.std.specs.Int.{byte_at, bytes_low_first}

pub power_of_bytes : (k : ℕ) → 2 ^ (8 * k) ≡ 256 ^ k
power_of_bytes zero = refl
power_of_bytes (suc k) =
    let more : 8 * suc k ≡ 8 * k + 8 = omega arith in
    let same : 256 ^ suc k ≡ 256 ^ (k + 1) = ap (λ (m : ℕ). 256 ^ m) (omega arith) in
    ap (λ (m : ℕ). 2 ^ m) more ∙ pow-add 2 (8 * k) 8 ∙ ap (λ (m : ℕ). m * 256) (power_of_bytes k) ∙ sym (same ∙ pow-add 256 k 1)

byte_is : (i n : ℕ) → byte_at i n ≡ n / 256 ^ i % 256
byte_is zero n = omega arith
byte_is (suc i) n = refl

moved : (i k n : ℕ) → byte_at i (n / 256 ^ k) ≡ byte_at (i + k) n
moved i k n =
    let turned : 256 ^ k * 256 ^ i ≡ 256 ^ (i + k) = sym (pow-add 256 k i) ∙ ap (λ (m : ℕ). 256 ^ m) (omega arith) in
    byte_is i (n / 256 ^ k)
    ∙ ap (λ (m : ℕ). m % 256) (div-div-eq-div-mul n (256 ^ k) (256 ^ i) ∙ ap (λ (m : ℕ). n / m) turned)
    ∙ sym (byte_is (i + k) n)

all_moved : (c i k n : ℕ) → bytes_low_first i c (n / 256 ^ k) ≡ bytes_low_first (i + k) c n
all_moved zero i k n = refl
all_moved (suc c) i k n =
    let next : suc i + k ≡ suc (i + k) = omega arith in
    let rest : bytes_low_first (suc i) c (n / 256 ^ k) ≡ bytes_low_first (suc (i + k)) c n =
    all_moved c (suc i) k n ∙ ap (λ (m : ℕ). bytes_low_first m c n) next in
    λ j. moved i k n j ∷ rest j

dropped : (k i c n : ℕ) → k ≤ c → drop k (bytes_low_first i c n) ≡ bytes_low_first (i + k) (c - k) n
dropped zero i c n h =
    let first : i ≡ i + 0 = omega arith in
    let count : c ≡ c - 0 = omega arith in
    ap (λ (m : ℕ). bytes_low_first m c n) first ∙ ap (λ (m : ℕ). bytes_low_first (i + 0) m n) count
dropped (suc k) i zero n h = absurd (omega arith)
dropped (suc k) i (suc c) n h =
    let first : suc i + k ≡ i + suc k = omega arith in
    let count : c - k ≡ suc c - suc k = omega arith in
    dropped k (suc i) c n (omega arith) ∙ ap (λ (m : ℕ). bytes_low_first m (c - k) n) first
    ∙ ap (λ (m : ℕ). bytes_low_first (i + suc k) m n) count

taken : (m i c n : ℕ) → m ≤ c → take m (bytes_low_first i c n) ≡ bytes_low_first i m n
taken zero i c n h = refl
taken (suc m) i zero n h = absurd (omega arith)
taken (suc m) i (suc c) n h = ap (λ (bytes : List ℕ). byte_at i n ∷ bytes) (taken m (suc i) c n (omega arith))

-- the bytes from one on
pub bytes_from_are : (word from : ℕ) → from < 8
    → take (8 - from) (bytes_low_first 0 8 (word / 2 ^ (8 * from))) ≡ drop from (bytes_low_first 0 8 word)
bytes_from_are word from inside =
    taken (8 - from) 0 8 (word / 2 ^ (8 * from)) (omega arith)
    ∙ ap (λ (m : ℕ). bytes_low_first 0 (8 - from) (word / m)) (power_of_bytes from)
    ∙ all_moved (8 - from) 0 from word
    ∙ sym (dropped from 0 8 word (omega arith))

-- the same with a point instead of that one
pointed : (m c : ℕ) → bytes_low_first 0 (suc c) (m / 256 * 256 + 46) ≡ 46 ∷ bytes_low_first 1 c m
pointed m c =
    let p : ℕ = m / 256 * 256 + 46 in
    let first : p % 256 ≡ 46 = omega arith in
    let rest : p / 256 ≡ m / 256 = omega arith in
    let same : bytes_low_first 1 c p ≡ bytes_low_first 1 c m =
    sym (all_moved c 0 1 p) ∙ ap (λ (k : ℕ). bytes_low_first 0 c k) rest ∙ all_moved c 0 1 m in
    λ j. first j ∷ same j

pub bytes_from_point_are : (word at : ℕ) → at < 8
    → take (8 - at) (bytes_low_first 0 8 (word / 2 ^ (8 * at) / 256 * 256 + 46)) ≡ 46 ∷ drop (at + 1) (bytes_low_first 0 8 word)
bytes_from_point_are word at inside =
    let m : ℕ = word / 2 ^ (8 * at) in
    let count : 8 - at ≡ suc (7 - at) = omega arith in
    let fewer : 8 - (at + 1) ≡ 7 - at = omega arith in
    let one : 1 + at ≡ 0 + (at + 1) = omega arith in
    taken (8 - at) 0 8 (m / 256 * 256 + 46) (omega arith)
    ∙ ap (λ (c : ℕ). bytes_low_first 0 c (m / 256 * 256 + 46)) count
    ∙ pointed m (7 - at)
    ∙ ap (λ (bytes : List ℕ). 46 ∷ bytes) (ap (λ (k : ℕ). bytes_low_first 1 (7 - at) (word / k)) (power_of_bytes at)
    ∙ all_moved (7 - at) 1 at word
    ∙ ap (λ (i : ℕ). bytes_low_first i (7 - at) word) one
    ∙ ap (λ (c : ℕ). bytes_low_first (0 + (at + 1)) c word) (sym fewer)
    ∙ sym (dropped (at + 1) 0 8 word (omega arith)))

-- a point and digits after it, or nothing
pub fraction_is : (at count : ℕ) (bytes digits : List ℕ) → take (8 - at) bytes ≡ 46 ∷ drop (at + 1) digits → at + count < 8
    → take (if count == 0 then 0 else count + 1) bytes ≡ (if count == 0 then [] else 46 ∷ take count (drop (at + 1) digits))
fraction_is at count bytes digits is inside = elim (cases_eq count 0) [
  | inl none ↦ rw (eq-eqb count 0 none) refl
  | inr some ↦
      let one : count + 1 ≡ suc count = omega arith in
      rw (ne_eqb count 0 some) (ap (λ (n : ℕ). take n bytes) one
      ∙ sym (take-take (suc count) (8 - at) bytes (omega (arith, inside)))
      ∙ ap (take (suc count)) is)
]
