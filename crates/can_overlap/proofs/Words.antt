-- Words of bits: what a bit is after one is set, after two sets are joined, and after a word is shifted down.
use Rattle.std.proofs.Common.{◌≡◌, ℕ, zero, suc, ◌+◌, ◌-◌, ◌*◌, ◌/◌, ◌%◌, ◌^◌, ◌<◌, ◌≤◌, Bool, true, false, ◌||◌, eqb, max, List}
use Rattle.std.proofs.Common.{[], length, get_or, set, arith, refl, ap, ◌∙◌, sym, ⊎_elim, eq-eqb}
use Rattle.std.specs.Int.{bit_at, trailing_zeros, w64}
use Rattle.std.specs.Int.RustNames.{bit_or}
use Rattle.std.proofs.lemmas.Bool.{cases_eq, cases_lt}
use Rattle.std.proofs.lemmas.List.{get_or-set_same, get_or-set_other}
use Rattle.std.proofs.Math.ListN.{replicate}
use Rattle.std.proofs.lemmas.Nat.{pow-add, shr_le}
use Rattle.std.proofs.Math.Nat.{div-div-eq-div-mul}
use Rattle.std.proofs.lemmas.Nat.Bits.{bit_at_or, bit_at-lt, bit_at-zero, bit_at_above, bit_at-trailing_zeros, bit_at_set_same}
use Rattle.std.proofs.lemmas.Nat.Bits.{bit_at_set_other}
use Rattle.std.proofs.lemmas.Grind.{common_steps}
use Rattle.can_overlap.specs.inner.IndexSet.{has}

eqb-max : (a b : ℕ) → a < 2 → b < 2 → eqb (max a b) 1 ≡ (eqb a 1 || eqb b 1)
eqb-max a b p q = grind (arith, common_steps)

bit_set-or : (a b i : ℕ) → eqb (bit_at (bit_or a b) i) 1 ≡ (eqb (bit_at a i) 1 || eqb (bit_at b i) 1)
bit_set-or a b i = rw bit_at_or (eqb-max (bit_at a i) (bit_at b i) (bit_at-lt a i) (bit_at-lt b i))

or_true : (b : Bool) → (b || true) ≡ true
or_true b = elim b as (λ v. (v || true) ≡ true) [ true ↦ refl | false ↦ refl ]

pub or_false : (b : Bool) → (b || false) ≡ b
or_false b = elim b as (λ v. (v || false) ≡ v) [ true ↦ refl | false ↦ refl ]

pub eqb-apart : (a b : ℕ) → (a ≡ b → ⊥) → eqb a b ≡ false
eqb-apart a b apart = grind (arith, common_steps)

-- a set of zeros
zeros : (n i : ℕ) → let none : ℕ = 0 in get_or (replicate n none) i none ≡ none
zeros zero i = refl
zeros (suc n) zero = refl
zeros (suc n) (suc i) = zeros n i

pub has-zeros : (index : ℕ) → has (replicate 16 0) index ≡ false
unfolding has
has-zeros index = rw (zeros 16 (index / 64), bit_at-zero)

-- a word of which one bit is set
word_insert : (word bit at : ℕ) → bit < 64
    → eqb (bit_at (bit_or word (1 * 2 ^ bit % 2 ^ 64)) at) 1 ≡ (eqb (bit_at word at) 1 || eqb at bit)
word_insert word bit at within =
    ⊎_elim
    (λ (e : at ≡ bit). rw e (rw (bit_at_set_same w64 word bit within, eq-eqb bit bit refl, or_true)))
    (λ (apart : at ≡ bit → ⊥). rw (bit_at_set_other w64 word bit within at apart, eqb-apart at bit apart, or_false))
    (cases_eq at bit)

pub has-insert : (words : List ℕ) (index other : ℕ) → index / 64 < length words
    → has (set words (index / 64) (bit_or (get_or words (index / 64) 0) (1 * 2 ^ (index % 64) % 2 ^ 64))) other
    ≡ (has words other || eqb other index)
unfolding has
has-insert words index other within =
    ⊎_elim
    (λ (row : other / 64 ≡ index / 64).
    let small : index % 64 < 64 = omega arith in
    let same : eqb (other % 64) (index % 64) ≡ eqb other index = grind (arith, common_steps) in
    rw row (rw get_or-set_same (word_insert (get_or words (index / 64) 0) (index % 64) (other % 64) small
    ∙ ap (λ b. eqb (bit_at (get_or words (index / 64) 0) (other % 64)) 1 || b) same)))
    (λ (row : other / 64 ≡ index / 64 → ⊥).
    let apart : other ≡ index → ⊥ = λ e. row (ap (λ n. n / 64) e) in
    rw (
      get_or-set_other words (index / 64) (other / 64) (bit_or (get_or words (index / 64) 0) (1 * 2 ^ (index % 64) % 2 ^ 64)) 0
          row,
      eqb-apart other index apart,
      or_false,
    ))
    (cases_eq (other / 64) (index / 64))

-- a set that is joined with another, word by word
pub has-joined : (a b joined : List ℕ) (index : ℕ) → get_or joined (index / 64) 0 ≡ bit_or (get_or a (index / 64) 0)
    (get_or b (index / 64) 0)
    → has joined index ≡ (has a index || has b index)
unfolding has
has-joined a b joined index e = rw e (bit_set-or (get_or a (index / 64) 0) (get_or b (index / 64) 0) (index % 64))

-- a bit of a word that was shifted down
pub bit_at-shifted : (word k i : ℕ) → bit_at (word / 2 ^ k) i ≡ bit_at word (k + i)
bit_at-shifted word k i = rw (div-div-eq-div-mul word (2 ^ k) (2 ^ i), ← (pow-add 2 k i))

above : (index other : ℕ) → index ≤ other → other ≡ index + (other - index)
above index other h = omega arith

-- an index above another one in its word is a bit of the shifted word
has-above : (words : List ℕ) (index step : ℕ) → index % 64 + step < 64
    → has words (index + step) ≡ eqb (bit_at (get_or words (index / 64) 0 / 2 ^ (index % 64)) step) 1
unfolding has
has-above words index step within =
    let row : (index + step) / 64 ≡ index / 64 = omega arith in
    let bit : (index + step) % 64 ≡ index % 64 + step = omega arith in
    rw (row, bit, bit_at-shifted (get_or words (index / 64) 0) (index % 64) step)

-- if the shifted word is 0, no index from here on has its bit in this word
pub has-none : (words : List ℕ) (index other : ℕ) → get_or words (index / 64) 0 / 2 ^ (index % 64) ≡ 0
    → index ≤ other → other < (index / 64 + 1) * 64 → has words other ≡ false
has-none words index other none low high =
    let within : index % 64 + (other - index) < 64 = omega arith in
    rw (above index other low, has-above words index (other - index) within, none, bit_at-zero)

-- else its lowest 1 is the first
step_fits : (word bit : ℕ) → word < 2 ^ 64 → 0 < word / 2 ^ bit → bit + trailing_zeros w64 (word / 2 ^ bit) < 64
step_fits word bit small some =
    let shifted : word / 2 ^ bit < 2 ^ 64 = omega (arith, shr_le word bit) in
    let lowest = bit_at-trailing_zeros w64 (word / 2 ^ bit) some shifted in
    let set_there : bit_at word (bit + trailing_zeros w64 (word / 2 ^ bit)) ≡ 1 =
    sym (bit_at-shifted word bit (trailing_zeros w64 (word / 2 ^ bit))) ∙ lowest.1 in
    ⊎_elim (λ (h : bit + trailing_zeros w64 (word / 2 ^ bit) < 64). h)
    (λ (h : 64 ≤ bit + trailing_zeros w64 (word / 2 ^ bit)).
    let clear : bit_at word (bit + trailing_zeros w64 (word / 2 ^ bit)) ≡ 0 =
    bit_at_above word 64 (bit + trailing_zeros w64 (word / 2 ^ bit)) small h in
    absurd (omega arith))
    (cases_lt (bit + trailing_zeros w64 (word / 2 ^ bit)) 64)

pub has-first : (words : List ℕ) (index : ℕ) → get_or words (index / 64) 0 < 2 ^ 64
    → 0 < get_or words (index / 64) 0 / 2 ^ (index % 64)
    → has words (index + trailing_zeros w64 (get_or words (index / 64) 0 / 2 ^ (index % 64))) ≡ true
has-first words index small some =
    let word : ℕ = get_or words (index / 64) 0 / 2 ^ (index % 64) in
    let shifted : word < 2 ^ 64 = omega (arith, shr_le (get_or words (index / 64) 0) (index % 64)) in
    let within : index % 64 + trailing_zeros w64 word < 64 = step_fits (get_or words (index / 64) 0) (index % 64) small some in
    rw (has-above words index (trailing_zeros w64 word) within) (eq-eqb (bit_at word (trailing_zeros w64 word)) 1
    (bit_at-trailing_zeros w64 word some shifted).1)

pub has-before : (words : List ℕ) (index other : ℕ) → get_or words (index / 64) 0 < 2 ^ 64
    → 0 < get_or words (index / 64) 0 / 2 ^ (index % 64)
    → index ≤ other → other < index + trailing_zeros w64 (get_or words (index / 64) 0 / 2 ^ (index % 64)) → has words other ≡ false
has-before words index other small some low high =
    let word : ℕ = get_or words (index / 64) 0 / 2 ^ (index % 64) in
    let shifted : word < 2 ^ 64 = omega (arith, shr_le (get_or words (index / 64) 0) (index % 64)) in
    let within : index % 64 + trailing_zeros w64 word < 64 = step_fits (get_or words (index / 64) 0) (index % 64) small some in
    let step : other - index < trailing_zeros w64 word = omega arith in
    let here : index % 64 + (other - index) < 64 = omega arith in
    let clear : bit_at word (other - index) ≡ 0 = (bit_at-trailing_zeros w64 word some shifted).2 (other - index) step in
    rw (above index other low, has-above words index (other - index) here, clear)

-- no word at all
pub has-none_there : (index : ℕ) → has [] index ≡ false
unfolding has
has-none_there index = rw bit_at-zero
