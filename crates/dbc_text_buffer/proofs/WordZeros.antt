-- Zeros at the end of eight digits, by the zeros in front of the word of their values.
use Rattle.std.proofs.Common.{◌≡◌, ℕ, zero, suc, ◌+◌, ◌-◌, ◌*◌, ◌/◌, ◌%◌, ◌^◌, ◌<◌, ◌≤◌, List, [], ◌∷◌, length, map}
use Rattle.std.proofs.Common.{drop, get_or, replicate, refl, sym, ap, ◌∙◌, arith, inl, inr}
use Rattle.std.specs.Int.{w64, to_le_bytes, from_le_bytes}
use Rattle.std.specs.Int.Count.{leading_of_zero}
use Rattle.std.proofs.lemmas.Bool.{cases_eq}
use Rattle.std.proofs.lemmas.Nat.{from_le_bytes-to_le_bytes_8, leading_top}
use Rattle.std.proofs.Math.Nat.{pow-le-pow_right, pow-succ'}
use lib.Count.{count_leading_zeros}
use Rattle.dbc_text_buffer.specs.EightDigits.{eight_digits, EndsInZeros}
use Rattle.dbc_text_buffer.proofs.WordBytes.{power_of_bytes}

-- the word that has the values of digits as its bytes, the first of them the lowest
abbrev word_of : List ℕ → ℕ
word_of [] = 0
word_of (d ∷ ds) = d + 256 * word_of ds

abbrev are_low : List ℕ → Type 0
are_low [] = 0 ≤ 9
are_low (d ∷ ds) = (d ≤ 9) × are_low ds

-- the digits of values
abbrev shown : List ℕ → List ℕ
shown ds = map (λ d. 48 + d) ds

none_of : (ds : List ℕ) → word_of ds ≡ 0 → shown ds ≡ replicate (length ds) 48
none_of [] none = refl
none_of (d ∷ ds) none =
    let first : 48 + d ≡ 48 = omega (arith, none) in
    let rest : shown ds ≡ replicate (length ds) 48 = none_of ds (omega (arith, none)) in
    λ i. first i ∷ rest i

-- the byte at an index is the highest that isn't 0
record IsTop (ds : List ℕ) (index : ℕ) : Type 0 where
  zeros : drop (suc index) (shown ds) ≡ replicate (length ds - suc index) 48
  last : 48 < get_or (shown ds) index 0

is_top : (index : ℕ) (ds : List ℕ) → are_low ds → 256 ^ index ≤ word_of ds → word_of ds < 256 ^ suc index → IsTop ds index
is_top zero [] low above below = absurd (omega (arith, above))
is_top zero (d ∷ ds) low above below =
    let none : word_of ds ≡ 0 = omega (arith, below) in
    let count : length ds ≡ suc (length ds) - 1 = omega arith in
    record { zeros = none_of ds none ∙ ap (λ (k : ℕ). replicate k 48) count; last = omega (arith, above, none) }
is_top (suc index) [] low above below =
    absurd (omega (arith, above, pow-le-pow_right {n = 256} (omega arith) {i = 0} {j = suc index} (omega arith)))
is_top (suc index) (d ∷ ds) low above below =
    let least : 256 ^ suc index ≡ 256 * 256 ^ index = pow-succ' 256 index in
    let most : 256 ^ suc (suc index) ≡ 256 * 256 ^ suc index = pow-succ' 256 (suc index) in
    let rest : IsTop ds index = is_top index ds low.1 (omega (arith, above, least, low.0)) (omega (arith, below, most)) in
    let count : length ds - suc index ≡ suc (length ds) - suc (suc index) = omega arith in
    record { zeros = rest.zeros ∙ ap (λ (k : ℕ). replicate k 48) count; last = rest.last }

by_word : (ds : List ℕ) (word : ℕ) → word ≡ word_of ds → length ds ≡ 8 → are_low ds → word < 2 ^ 64
    → EndsInZeros (shown ds) (count_leading_zeros 64 word / 8)
by_word ds word is eight low fits = elim (cases_eq word 0) [
  | inl none ↦
      let all : count_leading_zeros 64 word / 8 ≡ 8 =
      ap (λ (n : ℕ). count_leading_zeros 64 n / 8) none ∙ ap (λ (n : ℕ). n / 8) (leading_of_zero 64) in
      rw all (record {
        most = omega arith;
        zeros = none_of ds (sym is ∙ none) ∙ ap (λ (n : ℕ). replicate n 48) eight;
        last = λ few. absurd (omega (arith, few));
      })
  | inr some ↦
      let top = leading_top 64 word (omega (arith, some)) fits in
      let zeros : ℕ = count_leading_zeros 64 word in
      let r : ℕ = zeros / 8 in
      let j : ℕ = top.0 in
      let least : 2 ^ (8 * (7 - r)) ≤ 2 ^ j = pow-le-pow_right {n = 2} (omega arith) (omega (arith, top.1)) in
      let most : 2 ^ suc j ≤ 2 ^ (8 * (8 - r)) = pow-le-pow_right {n = 2} (omega arith) (omega (arith, top.1)) in
      let next : 8 - r ≡ suc (7 - r) = omega (arith, top.1) in
      let below : 256 ^ (8 - r) ≡ 256 ^ suc (7 - r) = ap (λ (k : ℕ). 256 ^ k) next in
      let count : length ds - suc (7 - r) ≡ r = omega (arith, eight, top.1) in
      let found : IsTop ds (7 - r) = is_top (7 - r) ds low (omega (arith, least, power_of_bytes (7 - r), top.2, is))
      (omega (arith, most, power_of_bytes (8 - r), below, top.3, is)) in
      record {
        most = omega (arith, top.1);
        zeros = ap (λ (k : ℕ). drop k (shown ds)) next ∙ found.zeros ∙ ap (λ (k : ℕ). replicate k 48) count;
        last = λ _. found.last;
      }
]

pub zeros_at_the_end : (number word : ℕ) → number < 10 ^ 8 → word < 2 ^ 64 → to_le_bytes w64 word ≡ eight_digits number
    → EndsInZeros (eight_digits number) (count_leading_zeros 64 (word - 3472328296227680304) / 8)
zeros_at_the_end number word small fits is =
    let whole : word ≡ from_le_bytes w64 (eight_digits number) =
    sym (from_le_bytes-to_le_bytes_8 word fits) ∙ ap (from_le_bytes w64) is in
    by_word ((number / 10000000) ∷ (number / 1000000 % 10) ∷ (number / 100000 % 10) ∷ (number / 10000 % 10) ∷ (number / 1000 % 10)
    ∷ (number / 100 % 10) ∷ (number / 10 % 10) ∷ (number % 10) ∷ []) (word - 3472328296227680304) (omega (arith, whole)) refl (
      omega (arith, small),
      (
        omega arith,
        (omega arith, (omega arith, (omega arith, (omega arith, (omega arith, (omega arith, omega arith)))))),
      ),
    )
    (omega (arith, fits))
