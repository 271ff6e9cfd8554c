-- The most significant bit is 1 exactly when the sum is at least its weight, since the others add up to less.
use Rattle.std.proofs.Common.{◌≡◌, ℕ, zero, suc, ◌+◌, ◌-◌, ◌*◌, ◌^◌, ◌<◌, ◌≤◌, ◌==◌, ◌&&◌, ◌||◌, nat_le, Bool, true, false, List}
use Rattle.std.proofs.Common.{[], ◌∷◌, map, length, refl, sym, ap, subst, ◌∙◌, add-one, arith}
use Rattle.std.specs.List.{list_any, range_with_len, sum_by}
use Rattle.std.proofs.lemmas.Bool.{le-leb, lt-leb}
use Rattle.std.proofs.Math.Bool.{or-false}
use Rattle.std.proofs.lemmas.Nat.{pow-add}
use Rattle.std.proofs.Math.Nat.{pow-le-pow_right, one-le-pow}
use Rattle.std.proofs.lemmas.List.Folds.{list_any-append}
use Rattle.std.proofs.lemmas.List.Sums.{sum_by-cons}
use Rattle.std.proofs.lemmas.List.FromFn.{length-map-range_with_len, map-range_with_len_more, sum_by-map-range_with_len_more}
use Rattle.dbc_records.specs.Records.{is_intel}
use Rattle.can_bits.specs.declared.field.Field.{Field}
use Rattle.can_bits.specs.Bits.{Bit, bit_at, bits_from, bit_of, counted, unsigned_raw, is_negative}
use Rattle.can_bits.proofs.Runs.{bit_counts, rising_below, falling_below}

differ : (a b : ℕ) → a < b → (a == b) ≡ false
differ a b less = grind arith

other_weight : (weight j m : ℕ) → weight ≡ 2 ^ j → j < m → (weight == 2 ^ m) ≡ false
other_weight weight j m is less =
    let more : 2 ^ (j + 1) ≤ 2 ^ m = pow-le-pow_right {n = 2} (omega arith) (omega arith) in
    let double : 2 ^ (j + 1) ≡ 2 ^ j * 2 = pow-add 2 j 1 in
    let some : 1 ≤ 2 ^ j = one-le-pow j 2 (omega arith) in
    differ weight (2 ^ m) (omega (arith, is, more, double, some))

same_weight : (weight top : ℕ) → weight ≡ top → (weight == top) ≡ true
same_weight weight top is = grind arith

top_decides : (others top b : ℕ) → others < top → b < 2 → (b == 1) ≡ nat_le top (others + top * b)
top_decides others top zero below small = sym (lt-leb top (others + top * 0) (omega arith))
top_decides others top (suc zero) below small = sym (le-leb top (others + top * 1) (omega arith))
top_decides others top (suc (suc b)) below small = absurd (omega (arith, small))

module _ (bytes : List ℕ) (at : ℕ → Bit) (top : ℕ) where
  -- the bit has the top weight, and is 1
  abbrev pub is_top : Bit → Bool
  is_top bit = bit.weight == top && bit_of bytes bit.position == 1

  none_top : (index n : ℕ) → ((j : ℕ) → j < n → ((at (index + j)).weight == top) ≡ false)
      → list_any is_top (map at (range_with_len index n)) ≡ false
  none_top index zero each = refl
  none_top index (suc n) each =
      let here : index + 0 ≡ index = omega arith in
      let first : ((at index).weight == top) ≡ false = rw here at (each 0 (omega arith)) in
      let rest : list_any is_top (map at (range_with_len (index + 1) n)) ≡ false =
      none_top (index + 1) n (λ j h. let later : index + 1 + j ≡ index + (1 + j) = omega arith in
      rw later (each (1 + j) (omega arith))) in
      rw (first, rest) refl

  the_top : (index : ℕ) → (at index).weight ≡ top → is_top (at index) ≡ (bit_of bytes (at index).position == 1)
  the_top index is = rw (same_weight (at index).weight top is) refl

-- weights that grow with the index
rising_sign : (bytes : List ℕ) (at : ℕ → Bit) (m : ℕ) → ((j : ℕ) → j < m + 1 → (at j).weight ≡ 2 ^ j)
    → list_any (is_top bytes at (2 ^ m)) (map at (range_with_len 0 (m + 1)))
    ≡ nat_le (2 ^ m) (sum_by (counted bytes) (map at (range_with_len 0 (m + 1))))
rising_sign bytes at m weighs =
    let test : Bit → Bool = is_top bytes at (2 ^ m) in
    let b : ℕ = bit_of bytes (at m).position in
    let end : 0 + m ≡ m = omega arith in
    let others : ℕ = sum_by (counted bytes) (map at (range_with_len 0 m)) in
    let below : others + 2 ^ 0 ≤ 2 ^ (0 + m) =
    rising_below (counted bytes) at 0 m (λ j h. let here : 0 + j ≡ j = omega arith in
    rw (here, weighs j (omega arith)) (bit_counts (2 ^ j) _)) in
    let less : others < 2 ^ m = let powers : 2 ^ (0 + m) ≡ 2 ^ m = ap (λ (k : ℕ). 2 ^ k) end in omega (arith, below, powers) in
    let last : counted bytes (at m) ≡ 2 ^ m * b = ap (λ (w : ℕ). w * b) (weighs m (omega arith)) in
    let none : list_any test (map at (range_with_len 0 m)) ≡ false =
    none_top bytes at (2 ^ m) 0 m (λ j h. let here : 0 + j ≡ j = omega arith in
    rw here (other_weight (at j).weight j m (weighs j (omega arith)) h)) in
    ap (list_any test) (map-range_with_len_more at 0 m m end)
    ∙ list_any-append test (map at (range_with_len 0 m)) (at m ∷ [])
    ∙ ap (λ (t : Bool). t || (test (at m) || false)) none
    ∙ or-false (test (at m))
    ∙ the_top bytes at (2 ^ m) m (weighs m (omega arith))
    ∙ top_decides others (2 ^ m) b less (omega arith)
    ∙ ap (λ (k : ℕ). nat_le (2 ^ m) (others + k)) (sym last)
    ∙ ap (nat_le (2 ^ m)) (sym (sum_by-map-range_with_len_more (counted bytes) at 0 m m end))

-- weights that fall with the index
falling_sign : (bytes : List ℕ) (at : ℕ → Bit) (m : ℕ) → ((j k : ℕ) → j + k ≡ m → (at j).weight ≡ 2 ^ k)
    → list_any (is_top bytes at (2 ^ m)) (map at (range_with_len 0 (suc m)))
    ≡ nat_le (2 ^ m) (sum_by (counted bytes) (map at (range_with_len 0 (suc m))))
falling_sign bytes at m weighs =
    let test : Bit → Bool = is_top bytes at (2 ^ m) in
    let b : ℕ = bit_of bytes (at 0).position in
    let others : ℕ = sum_by (counted bytes) (map at (range_with_len 1 m)) in
    let less : others < 2 ^ m = falling_below (counted bytes) at 1 m (λ j k h. rw (weighs (1 + j) k (omega arith))
    (bit_counts (2 ^ k) _)) in
    let first : counted bytes (at 0) ≡ 2 ^ m * b = ap (λ (w : ℕ). w * b) (weighs 0 m (omega arith)) in
    let none : list_any test (map at (range_with_len 1 m)) ≡ false =
    none_top bytes at (2 ^ m) 1 m (λ j h. let left : 1 + j + (m - (1 + j)) ≡ m = omega arith in
    other_weight (at (1 + j)).weight (m - (1 + j)) m (weighs (1 + j) (m - (1 + j)) left) (omega arith)) in
    let turned : others + 2 ^ m * b ≡ 2 ^ m * b + others = omega arith in
    ap (λ (t : Bool). test (at 0) || t) none
    ∙ or-false (test (at 0))
    ∙ the_top bytes at (2 ^ m) 0 (weighs 0 m (omega arith))
    ∙ top_decides others (2 ^ m) b less (omega arith)
    ∙ ap (nat_le (2 ^ m)) (turned ∙ ap (λ (k : ℕ). k + others) (sym first)
    ∙ sym (sum_by-cons (counted bytes) (at 0) (map at (range_with_len 1 m))))

pub bit_count : (field : Field) → length (bits_from field 0 field.length) ≡ field.length
bit_count field = length-map-range_with_len (bit_at field) 0 field.length

sign_of : (bytes : List ℕ) (field : Field) (m : ℕ) → field.length ≡ m + 1
    → list_any (is_top bytes (bit_at field) (2 ^ m)) (bits_from field 0 (m + 1))
    ≡ nat_le (2 ^ m) (unsigned_raw bytes (bits_from field 0 (m + 1)))
sign_of bytes field m long = elim (is_intel field.order) as (λ intel. is_intel field.order ≡ intel
    → list_any (is_top bytes (bit_at field) (2 ^ m)) (bits_from field 0 (m + 1))
    ≡ nat_le (2 ^ m) (unsigned_raw bytes (bits_from field 0 (m + 1)))) [
      | true ↦ λ intel. rising_sign bytes (bit_at field) m (λ j h. rw intel refl)
      | false ↦ λ motorola.
          subst (λ (n : ℕ). list_any (is_top bytes (bit_at field) (2 ^ m)) (bits_from field 0 n)
          ≡ nat_le (2 ^ m) (unsigned_raw bytes (bits_from field 0 n))) (sym (add-one m))
          (falling_sign bytes (bit_at field) m (λ j k h. let weighs : field.length - 1 - j ≡ k = omega (arith, long, h) in
          rw (motorola, weighs) refl))
    ] refl

pub sign_is : (bytes : List ℕ) (field : Field) → 0 < field.length
    → is_negative bytes (bits_from field 0 field.length) ≡ nat_le (2 ^ (field.length - 1))
    (unsigned_raw bytes (bits_from field 0 field.length))
sign_is bytes field some =
    let m : ℕ = field.length - 1 in
    let long : field.length ≡ m + 1 = omega arith in
    let top : length (bits_from field 0 field.length) - 1 ≡ m = ap (λ (n : ℕ). n - 1) (bit_count field) in
    ap (λ (k : ℕ). list_any (is_top bytes (bit_at field) (2 ^ k)) (bits_from field 0 field.length)) top
    ∙ subst (λ (n : ℕ). list_any (is_top bytes (bit_at field) (2 ^ m)) (bits_from field 0 n)
    ≡ nat_le (2 ^ m) (unsigned_raw bytes (bits_from field 0 n))) (sym long) (sign_of bytes field m long)
