-- The table of the numbers below a hundred, checked against their digits by computing.
use Rattle.std.proofs.Common.{◌≡◌, ℕ, zero, suc, ◌+◌, ◌*◌, ◌/◌, ◌%◌, ◌<◌, ◌≤◌, Bool, true, ◌&&◌, T, eqb}
use Rattle.std.proofs.Common.{List, [], ◌∷◌, length, get_or, subst, arith, eqb→eq}
use Rattle.std.proofs.Math.Nat.{zero-add}
use lib.Ieee.Fits.{and_l, and_r}
use Rattle.dbc_text_buffer.specs.declared.eight_digits.TheConstants.{PAIRS}

are_pairs : ℕ → List ℕ → Bool
are_pairs n (a ∷ b ∷ rest) = (eqb a (48 + n / 10) && eqb b (48 + n % 10)) && are_pairs (suc n) rest
are_pairs n _ = true

pairs_at : (i n : ℕ) (xs : List ℕ) → T (are_pairs n xs) → 2 * i + 2 ≤ length xs
    → (get_or xs (2 * i) 0 ≡ 48 + (n + i) / 10) × (get_or xs (2 * i + 1) 0 ≡ 48 + (n + i) % 10)
unfolding are_pairs
pairs_at i n [] t long = absurd (omega arith)
pairs_at i n (a ∷ []) t long = absurd (omega arith)
pairs_at zero n (a ∷ b ∷ rest) t long =
    let none : n + 0 ≡ n = omega arith in
    let here = and_l _ (are_pairs (suc n) rest) t in
    rw none (eqb→eq _ _ (and_l _ _ here), eqb→eq _ _ (and_r _ _ here))
pairs_at (suc i) n (a ∷ b ∷ rest) t long =
    let further : 2 * suc i ≡ suc (suc (2 * i)) = omega arith in
    let after : 2 * suc i + 1 ≡ suc (suc (2 * i + 1)) = omega arith in
    let next : n + suc i ≡ suc n + i = omega arith in
    rw (after, further, next) (pairs_at i (suc n) rest (and_r _ _ t) (omega arith))

pair_table : T (are_pairs 0 PAIRS)
unfolding are_pairs
pair_table = tt

pub pair_at : (n : ℕ) → n < 100 → (get_or PAIRS (2 * n) 0 ≡ 48 + n / 10) × (get_or PAIRS (2 * n + 1) 0 ≡ 48 + n % 10)
pair_at n small =
    subst (λ (m : ℕ). (get_or PAIRS (2 * n) 0 ≡ 48 + m / 10) × (get_or PAIRS (2 * n + 1) 0 ≡ 48 + m % 10)) (zero-add n)
    (pairs_at n 0 PAIRS pair_table (omega arith))
