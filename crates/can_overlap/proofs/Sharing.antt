-- What a signal and the later ones give, by whether they share a position.
use Rattle.std.proofs.Common.{append-nil, ◌≡◌, ℕ, zero, suc, ◌+◌, ◌<◌, ◌≤◌, Bool, true, false, ◌&&◌, ltb}
use Rattle.std.proofs.Common.{List, [], ◌∷◌, ◌++◌, length}
use Rattle.std.proofs.Common.{get_or, take, take_all, drop, drop-cons, arith, refl, ap, ◌∙◌, sym, append_assoc, ◌-◌}
use Rattle.std.proofs.Math.Bool.{and-false}
use Rattle.std.specs.List.{flat_map, enumerate_from, list_any, range_with_len}
use Rattle.std.proofs.lemmas.List.FromFn.{get_or-enumerate_from, length-enumerate_from}
use Rattle.std.proofs.lemmas.List.{drop_all}
use Rattle.std.proofs.lemmas.Grind.{common_steps}
use Rattle.can_bits.specs.declared.field.Field.{Field}
use Rattle.can_bits.specs.Bits.{position_of, has_position}
use Rattle.can_entries.specs.Links.{Link}
use Rattle.can_entries.specs.declared.walk.Walk.{Walk}
use Rattle.can_entries.specs.declared.walk.Walk.TheVariants.{Chain, Loop}
use Rattle.can_overlap.specs.declared.pair.Pair.{Pair}
use Rattle.can_overlap.specs.declared.indexes.IndexSet.{IndexSet}
use Rattle.can_overlap.specs.inner.IndexSet.{has}
use Rattle.can_overlap.specs.Overlaps.{Laid, laid_from, share, together, pair_where, pair_of, for_pairs, pairs_from}
use Rattle.can_overlap.specs.inner.Occupancy.{is_marked, IsOccupancy, shared_pair, shared_pairs, laid_at}
use Rattle.can_overlap.proofs.Skips.{flat_map-none, flat_map-skip}

-- ---- the indexes of a set, one after the other

module _ (first : ℕ) (chain : List Link) (words : List ℕ) (from : ℕ) (later : List Walk) where
  entries : List (ℕ × Walk)
  entries = enumerate_from from later

  within : (k : ℕ) → k < length (enumerate_from from later) → k < length later
  within k h = let e : length (enumerate_from from later) ≡ length later = length-enumerate_from from later in omega arith

  apart : (k : ℕ) (d : ℕ × Walk) → k < length later → has words (from + k) ≡ false
      → shared_pair first chain words (get_or (enumerate_from from later) k d) ≡ []
  apart k d h e = rw (get_or-enumerate_from from later k d h) (rw e refl)

  shared : (k : ℕ) (d : ℕ × Walk) → k < length later → has words (from + k) ≡ true
      → shared_pair first chain words (get_or (enumerate_from from later) k d)
      ≡ pair_where (together (Chain chain) (get_or later k d.1)) first (from + k)
  shared k d h e = rw (get_or-enumerate_from from later k d h) (rw e refl)

  -- before the first index of the set
  pub none_shared : (found : List Pair) (n : ℕ) (d : ℕ × Walk) → ((k : ℕ) → k < n → k < length later → has words (from + k) ≡ false)
      → found ≡ found ++ flat_map (shared_pair first chain words) (take n (enumerate_from from later))
  none_shared found n d nothing =
      sym (ap (λ ys. found ++ ys) (flat_map-none (shared_pair first chain words) (enumerate_from from later) n d
      (λ k low high. apart k d (within k high) (nothing k low (within k high)))) ∙ append-nil found)

  -- the index at a is in the set, and those up to b are not
  pub next_shared : (found : List Pair) (a b : ℕ) (d : ℕ × Walk) → a < b → a < length later → has words (from + a) ≡ true
      → ((k : ℕ) → a < k → k < b → k < length later → has words (from + k) ≡ false)
      → (found ++ flat_map (shared_pair first chain words) (take a (enumerate_from from later)))
      ++ pair_where (together (Chain chain) (get_or later a d.1)) first (from + a)
      ≡ found ++ flat_map (shared_pair first chain words) (take b (enumerate_from from later))
  next_shared found a b d order h here nothing =
      let inside : a < length (enumerate_from from later) = let e : length (enumerate_from from later) ≡ length later =
      length-enumerate_from from later in omega arith in
      append_assoc found (flat_map (shared_pair first chain words) (take a (enumerate_from from later)))
      (pair_where (together (Chain chain) (get_or later a d.1)) first (from + a))
      ∙ ap (λ ys. found ++ (flat_map (shared_pair first chain words) (take a (enumerate_from from later)) ++ ys))
      (sym (shared a d h here))
      ∙ ap (λ ys. found ++ ys) (sym (flat_map-skip (shared_pair first chain words) (enumerate_from from later) a b d order inside
      (λ k low high most. apart k d (within k most) (nothing k low high (within k most)))))

  pub all_shared : (n : ℕ) → length later ≤ n → take n (enumerate_from from later) ≡ enumerate_from from later
  all_shared n h = let e : length (enumerate_from from later) ≡ length later = length-enumerate_from from later in
      take_all n (enumerate_from from later) (omega arith)

  -- no index of the set comes after
  pub none_following : (found : List Pair) (next : ℕ) → from + length later ≤ next → ((index : ℕ) → from ≤ index → index < next
      → has words index ≡ false)
      → found ≡ found ++ shared_pairs first chain words from later
  none_following found next after nothing =
      none_shared found (length later) (0, Loop) (λ k low high. nothing (from + k) (omega arith) (omega arith))
      ∙ ap (λ ys. found ++ flat_map (shared_pair first chain words) ys) (all_shared (length later) (omega arith))

-- ---- the same as the pairs that are defined

pub chained : (a : Laid) (chain : List Link) → a.walk ≡ Chain chain → (words : List ℕ) (from : ℕ) (fields : List Field)
    (walks : List Walk) → length walks ≡ length fields
    → ((k : ℕ) (d : Field) → k < length fields → has words (from + k) ≡ share a.field (get_or fields k d))
    → shared_pairs a.index chain words from walks ≡ flat_map (pair_of a) (laid_from from fields walks)
chained a chain is words from [] [] lengths shares = refl
chained a chain is words from [] (walk ∷ walks) lengths shares = absurd (omega arith)
chained a chain is words from (field ∷ fields) [] lengths shares = absurd (omega arith)
chained a chain is words from (field ∷ fields) (walk ∷ walks) lengths shares =
    let here : from + 0 ≡ from = omega arith in
    let head : has words from ≡ share a.field field = ap (has words) (sym here) ∙ shares 0 field (omega arith) in
    let rest : shared_pairs a.index chain words (from + 1) walks ≡ flat_map (pair_of a) (laid_from (from + 1) fields walks) =
    chained a chain is words (from + 1) fields walks (omega arith)
    (λ k d h. let on : from + 1 + k ≡ from + suc k = omega arith in ap (has words) on ∙ shares (suc k) d (omega arith)) in
    ap (λ b. pair_where (b && together (Chain chain) walk) a.index from ++ shared_pairs a.index chain words (from + 1) walks) head
    ∙ ap (λ w. pair_where (share a.field field && together w walk) a.index from ++ shared_pairs a.index chain words (from + 1)
    walks)
    (sym is)
    ∙ ap (λ ys. pair_where (share a.field field && together a.walk walk) a.index from ++ ys) rest

pub unchained : (a : Laid) → ((walk : Walk) → together a.walk walk ≡ false) → (later : List Laid) → flat_map (pair_of a) later ≡ []
unchained a never [] = refl
unchained a never (b ∷ later) =
    ap (λ c. pair_where (share a.field b.field && c) a.index b.index ++ flat_map (pair_of a) later) (never b.walk)
    ∙ ap (λ c. pair_where c a.index b.index ++ flat_map (pair_of a) later) (and-false (share a.field b.field))
    ∙ unchained a never later

-- ---- what the rows determine about a signal

same_any : (p q : ℕ → Bool) (xs : List ℕ) → ((x : ℕ) → p x ≡ q x) → list_any p xs ≡ list_any q xs
same_any p q [] same = refl
same_any p q (x ∷ xs) same = rw (same x, same_any p q xs same) refl

is_below : (n m : ℕ) → n < m → ltb n m ≡ true
is_below n m h = grind (arith, common_steps)

-- a row at one of the signal's positions has the indexes of the signals that share a position with it
pub share_from_marks : (fields : List Field) (rows : List IndexSet) (first : Field) (index : ℕ) (d : Field) → IsOccupancy fields
    rows
    → index < length fields
    → list_any (λ bit. is_marked rows (position_of first bit) index) (range_with_len 0 first.length)
    ≡ share first (get_or fields index d)
share_from_marks fields rows first index d marked h =
    same_any (λ bit. is_marked rows (position_of first bit) index) (λ bit. has_position (get_or fields index d)
    (position_of first bit)) (range_with_len 0 first.length)
    (λ bit. marked (position_of first bit) index d ∙ ap (λ b. b && has_position (get_or fields index d) (position_of first bit))
    (is_below index (length fields) h))

dropped : {X : Type 0} (xs : List X) (i : ℕ) (d : X) → i < length xs → drop i xs ≡ get_or xs i d ∷ drop (i + 1) xs
dropped xs i d h = let next : suc i ≡ i + 1 = omega arith in drop-cons xs i d h ∙ ap (λ (k : ℕ). get_or xs i d ∷ drop k xs) next

-- the pairs of the signal at an index with later ones
pub pairs_here : (fields : List Field) (walks : List Walk) (i : ℕ) (d : Field) (w : Walk) → i < length fields → i < length walks
    → pairs_from fields walks i
    ≡ flat_map (pair_of (laid_at fields walks i d w)) (laid_from (i + 1) (drop (i + 1) fields) (drop (i + 1) walks))
unfolding pairs_from
pairs_here fields walks i d w h other = rw (dropped fields i d h, dropped walks i w other) refl

-- the pairs of one more first signal
for_pairs-step : (fields : List Field) (walks : List Walk) (i : ℕ) (d : Field) (w : Walk) → i < length fields → i < length walks
    → for_pairs pair_of (laid_from i (drop i fields) (drop i walks))
    ≡ pairs_from fields walks i ++ for_pairs pair_of (laid_from (i + 1) (drop (i + 1) fields) (drop (i + 1) walks))
unfolding pairs_from
for_pairs-step fields walks i d w h other = rw (dropped fields i d h, dropped walks i w other) refl

-- those of the signals from an index on, of which the last has no later one
from_index : (fields : List Field) (walks : List Walk) (d : Field) (w : Walk) (i n : ℕ) → length walks ≡ length fields
    → i + suc n ≡ length fields
    → for_pairs pair_of (laid_from i (drop i fields) (drop i walks)) ≡ flat_map (pairs_from fields walks) (range_with_len i n)
from_index fields walks d w i zero lengths all =
    rw (dropped fields i d (omega arith), dropped walks i w (omega arith), drop_all (i + 1) fields (omega arith)) refl
from_index fields walks d w i (suc n) lengths all =
    for_pairs-step fields walks i d w (omega arith) (omega arith)
    ∙ ap (λ (pairs : List Pair). pairs_from fields walks i ++ pairs) (from_index fields walks d w (i + 1) n lengths (omega arith))

pub by_signal : (fields : List Field) (walks : List Walk) → length walks ≡ length fields
    → for_pairs pair_of (laid_from 0 fields walks) ≡ flat_map (pairs_from fields walks) (range_with_len 0 (length fields - 1))
by_signal [] walks lengths = refl
by_signal (field ∷ fields) walks lengths =
    let others : length (field ∷ fields) - 1 ≡ length fields = omega arith in
    let all : 0 + suc (length fields) ≡ length (field ∷ fields) = omega arith in
    from_index (field ∷ fields) walks field Loop 0 (length fields) lengths all
    ∙ ap (λ (n : ℕ). flat_map (pairs_from (field ∷ fields) walks) (range_with_len 0 n)) (sym others)
