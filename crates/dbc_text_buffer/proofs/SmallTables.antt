-- The table of the numbers below a thousand, checked against their digits by computing.
use Rattle.std.proofs.Common.{◌≡◌, ℕ, zero, suc, ◌+◌, ◌-◌, ◌*◌, ◌/◌, ◌%◌, ◌<◌, ◌≤◌, Bool, true, false, ◌&&◌, T, eqb, cond, nat_lt}
use Rattle.std.proofs.Common.{List, [], ◌∷◌, length, get_or, take, drop, refl, sym, subst, ◌∙◌, inl, inr, arith, eqb→eq}
use Rattle.std.specs.Prelude.{decimal, nat_le}
use Rattle.std.proofs.lemmas.Bool.{cases_lt, lt-ltb, le-ltb}
use Rattle.std.proofs.lemmas.Fmt.{decimal_digit, decimal_step}
use Rattle.std.proofs.lemmas.List.{take-take}
use Rattle.std.proofs.Math.Facts.{leb_yes}
use Rattle.std.proofs.Math.Nat.{zero-add}
use lib.Ieee.Fits.{and_l, and_r}
use Rattle.dbc_text_buffer.specs.declared.small_number.TheConstants.{SMALL}

-- the digits of such a number
spelled : ℕ → List ℕ
spelled n = cond (nat_lt n 10) ((48 + n) ∷ []) (cond (nat_lt n 100) ((48 + n / 10) ∷ (48 + n % 10) ∷ []) ((48 + n / 100)
    ∷ (48 + n / 10 % 10) ∷ (48 + n % 10) ∷ []))

spelled_is : (n : ℕ) → n < 1000 → spelled n ≡ decimal n
unfolding spelled
spelled_is n small = elim (cases_lt n 10) [
  | inl one ↦ rw (lt-ltb n 10 one) (sym (decimal_digit n one))
  | inr more ↦ rw (le-ltb n 10 more) (elim (cases_lt n 100) [
    | inl two ↦ rw (lt-ltb n 100 two, decimal_step n more (omega arith), decimal_digit (n / 10) (omega arith)) refl
    | inr three ↦
        let above : n / 10 / 10 ≡ n / 100 = omega arith in
        rw (
          le-ltb n 100 three,
          decimal_step n more (omega arith),
          decimal_step (n / 10) (omega arith) (omega arith),
          decimal_digit (n / 10 / 10) (omega arith),
          above,
        ) refl
  ])
]

same : List ℕ → List ℕ → Bool
same [] [] = true
same [] (y ∷ ys) = false
same (x ∷ xs) [] = false
same (x ∷ xs) (y ∷ ys) = eqb x y && same xs ys

same_is : (xs ys : List ℕ) → T (same xs ys) → xs ≡ ys
unfolding same
same_is [] [] t = refl
same_is [] (y ∷ ys) t = absurd t
same_is (x ∷ xs) [] t = absurd t
same_is (x ∷ xs) (y ∷ ys) t =
    let first : x ≡ y = eqb→eq x y (and_l _ (same xs ys) t) in
    let rest : xs ≡ ys = same_is xs ys (and_r _ (same xs ys) t) in
    λ i. first i ∷ rest i

-- the last of four bytes is how many of them are the digits of the number
pub record IsSmall (n : ℕ) (entry : List ℕ) : Type 0 where
  pub least : 48 ≤ get_or entry 3 0
  pub most : get_or entry 3 0 ≤ 51
  pub digits : take (get_or entry 3 0 - 48) entry ≡ decimal n

fits : ℕ → ℕ → ℕ → ℕ → ℕ → Bool
fits n a b c k = (nat_le 48 k && nat_le k 51) && same (take (k - 48) (a ∷ b ∷ c ∷ k ∷ [])) (spelled n)

fits_is : (n a b c k : ℕ) → n < 1000 → T (fits n a b c k) → IsSmall n (a ∷ b ∷ c ∷ k ∷ [])
unfolding fits
fits_is n a b c k small t =
    let range = and_l _ (same (take (k - 48) (a ∷ b ∷ c ∷ k ∷ [])) (spelled n)) t in
    let digits = and_r _ (same (take (k - 48) (a ∷ b ∷ c ∷ k ∷ [])) (spelled n)) t in
    record {
      least = leb_yes (and_l _ (nat_le k 51) range);
      most = leb_yes (and_r _ (nat_le k 51) range);
      digits = same_is (take (k - 48) (a ∷ b ∷ c ∷ k ∷ [])) (spelled n) digits ∙ spelled_is n small;
    }

all_fit : ℕ → List ℕ → Bool
all_fit n (a ∷ b ∷ c ∷ k ∷ rest) = fits n a b c k && all_fit (suc n) rest
all_fit n _ = true

fits_at : (i n : ℕ) (xs : List ℕ) → T (all_fit n xs) → 4 * i + 4 ≤ length xs → n + i < 1000
    → IsSmall (n + i) (take 4 (drop (4 * i) xs))
unfolding all_fit
fits_at i n [] t long small = absurd (omega arith)
fits_at i n (a ∷ []) t long small = absurd (omega arith)
fits_at i n (a ∷ b ∷ []) t long small = absurd (omega arith)
fits_at i n (a ∷ b ∷ c ∷ []) t long small = absurd (omega arith)
fits_at zero n (a ∷ b ∷ c ∷ k ∷ rest) t long small =
    let none : n + 0 ≡ n = omega arith in
    rw none (fits_is n a b c k (omega arith) (and_l _ (all_fit (suc n) rest) t))
fits_at (suc i) n (a ∷ b ∷ c ∷ k ∷ rest) t long small =
    let further : 4 * suc i ≡ suc (suc (suc (suc (4 * i)))) = omega arith in
    let next : n + suc i ≡ suc n + i = omega arith in
    rw (further, next) (fits_at i (suc n) rest (and_r (fits n a b c k) _ t) (omega arith) (omega arith))

table : T (all_fit 0 SMALL)
unfolding all_fit fits same spelled
table = tt

pub small_at : (n : ℕ) → n < 1000 → IsSmall n (take 4 (drop (4 * n) SMALL))
small_at n small =
    subst (λ (m : ℕ). IsSmall m (take 4 (drop (4 * n) SMALL))) (zero-add n) (fits_at n 0 SMALL table (omega arith) (omega arith))

-- an entry as it is read
pub small_read : (n : ℕ) (entry : List ℕ) → n < 1000 → entry ≡ take 4 (take (4000 - 4 * n) (drop (4 * n) SMALL)) → IsSmall n entry
small_read n entry small read =
    subst (IsSmall n) (sym (read ∙ take-take 4 (4000 - 4 * n) (drop (4 * n) SMALL) (omega arith))) (small_at n small)
