-- Numbers with zeros after them: products with powers of ten.
use Rattle.std.proofs.Common.{◌≡◌, ◌≢◌, ℕ, ◌+◌, ◌-◌, ◌*◌, ◌^◌, ◌%◌, ◌<◌, ◌≤◌, sym, ap, ◌∙◌, add-one, arith}
use Rattle.std.proofs.Math.Nat.{one-le-pow, pow-suc, pow-le-pow_right, le_of_mul-le-mul_right, le-mul_of_pos_right, mul_assoc}
use Rattle.std.proofs.Math.Nat.{mul-mod_left}
use Rattle.std.proofs.lemmas.Nat.{pow-add, mul-le}

pub tens_positive : (k : ℕ) → 1 ≤ 10 ^ k
tens_positive k = one-le-pow k 10 (omega arith)

pub same_tens : (a b k : ℕ) → a * 10 ^ k ≡ b * 10 ^ k → a ≡ b
same_tens a b k e =
    let some : 0 < 10 ^ k = omega (arith, tens_positive k) in
    let up : a ≤ b = le_of_mul-le-mul_right {m = a} {n = b} {k = 10 ^ k} (omega arith) some in
    let down : b ≤ a = le_of_mul-le-mul_right {m = b} {n = a} {k = 10 ^ k} (omega arith) some in
    omega arith

-- one zero more
pub tens_more : (n z : ℕ) → n * 10 ^ z * 10 ≡ n * 10 ^ (z + 1)
tens_more n z =
    let p : 10 ^ (z + 1) ≡ 10 ^ z * 10 = rw add-one (pow-suc 10 z) in
    mul_assoc n (10 ^ z) 10 ∙ ap (λ (p : ℕ). n * p) (sym p)

pub tens_apart : (n a b : ℕ) → n * 10 ^ (a + b) ≡ n * 10 ^ a * 10 ^ b
tens_apart n a b = ap (λ (p : ℕ). n * p) (pow-add 10 a b) ∙ sym (mul_assoc n (10 ^ a) (10 ^ b))

pub tens_none : (n : ℕ) → n * 10 ^ 0 ≡ n
tens_none n = omega arith

-- a number with fewer zeros written after it, and the same value, ends in a zero itself
pub ends_in_zero : (n m z k : ℕ) → n * 10 ^ z ≡ m * 10 ^ k → z < k → n % 10 ≡ 0
ends_in_zero n m z k e less =
    let j : ℕ = k - z - 1 in
    let k-is : j + 1 + z ≡ k = omega arith in
    let split : m * 10 ^ k ≡ m * 10 ^ (j + 1) * 10 ^ z = ap (λ (i : ℕ). m * 10 ^ i) (sym k-is) ∙ tens_apart m (j + 1) z in
    let n-is : n ≡ m * 10 ^ (j + 1) = same_tens n (m * 10 ^ (j + 1)) z (e ∙ split) in
    let last : n ≡ m * 10 ^ j * 10 = n-is ∙ sym (tens_more m j) in
    ap (λ (i : ℕ). i % 10) last ∙ mul-mod_left (m * 10 ^ j) 10

-- a number is written in one way as one that ends in no zero, with zeros after it
pub record SameTens (n m z k : ℕ) : Type 0 where
  pub number : n ≡ m
  pub zeros : z ≡ k

pub one_way : (n m z k : ℕ) → n * 10 ^ z ≡ m * 10 ^ k → n % 10 ≢ 0 → m % 10 ≢ 0 → SameTens n m z k
one_way n m z k e n-last m-last =
    let not_less : ¬ (z < k) = λ less. n-last (ends_in_zero n m z k e less) in
    let not_more : ¬ (k < z) = λ more. m-last (ends_in_zero m n k z (sym e) more) in
    let zeros : z ≡ k = omega arith in
    record { number = same_tens n m z (e ∙ ap (λ (i : ℕ). m * 10 ^ i) (sym zeros)); zeros = zeros }

pub tens_at_least : (n a b : ℕ) → 1 ≤ n → a ≤ b → 10 ^ a ≤ n * 10 ^ b
tens_at_least n a b some more =
    let p : 10 ^ a ≤ 10 ^ b = pow-le-pow_right {n = 10} (omega arith) more in
    let q : 1 * 10 ^ b ≤ n * 10 ^ b = mul-le 1 (10 ^ b) n (10 ^ b) some (omega arith) in
    omega arith

pub tens_below : (a : ℕ) → a ≤ 38 → 10 ^ a < 2 ^ 128
tens_below a few = let p : 10 ^ a ≤ 10 ^ 38 = pow-le-pow_right {n = 10} (omega arith) few in omega arith

pub at_least_itself : (n k : ℕ) → n ≤ n * 10 ^ k
at_least_itself n k = le-mul_of_pos_right {m = 10 ^ k} n (omega (arith, tens_positive k))
