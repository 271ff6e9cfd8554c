-- Ranges in order: which one of two lists can be skipped, and what can replace what.
use Rattle.std.proofs.Common.{◌≡◌, ℕ, zero, suc, ◌+◌, ◌<◌, ◌≤◌, Bool, true, false, ◌||◌, max, min, List, [], ◌∷◌, ◌++◌, length}
use Rattle.std.proofs.Common.{get_or, take, drop, drop-cons, arith, refl, subst, ap, ◌∙◌, sym}
use Rattle.std.specs.List.{list_any, All}
use Rattle.std.specs.List.Sorted.{IsNonDecreasingBy}
use Rattle.std.proofs.lemmas.Bool.{le-leb, lt-leb, leb-true, leb-false}
use Rattle.std.proofs.lemmas.List.{drop_all}
use Rattle.std.proofs.lemmas.List.Elements.{All-head, All-tail, All-cons, All-push, All-weaker}
use Rattle.std.proofs.lemmas.List.Folds.{list_any-append, list_any_more, list_any_none}
use Rattle.std.proofs.lemmas.Grind.{common_steps}
use Rattle.dbc_records.specs.declared.mux_row.Range.{Range}
use Rattle.can_overlap.specs.Overlaps.{have_common, ranges_meet}
use Rattle.can_overlap.specs.inner.Ordered.{holds_some, IsOrdered, AreWhole, StandFor}
use Rattle.can_overlap.proofs.Words.{or_false}

-- ---- two ranges

min_below : (a b c d : ℕ) → c < b → min c d < max a b
min_below a b c d h = grind (arith, common_steps)

-- the one ends before the other begins
before : (x y : Range) → x.last < y.first → have_common x y ≡ false
before x y h = lt-leb (max x.first y.first) (min x.last y.last) (min_below x.first y.first x.last y.last h)

min_below_first : (a b c d : ℕ) → d < a → min c d < max a b
min_below_first a b c d h = grind (arith, common_steps)

after : (x y : Range) → y.last < x.first → have_common x y ≡ false
after x y h = lt-leb (max x.first y.first) (min x.last y.last) (min_below_first x.first y.first x.last y.last h)

min_empty : (a b c d : ℕ) → c < a → min c d < max a b
min_empty a b c d h = grind (arith, common_steps)

empty : (x y : Range) → holds_some x ≡ false → have_common x y ≡ false
empty x y h = lt-leb (max x.first y.first) (min x.last y.last) (min_empty x.first y.first x.last y.last
    (leb-false x.first x.last h))

min_empty_second : (a b c d : ℕ) → d < b → min c d < max a b
min_empty_second a b c d h = grind (arith, common_steps)

empty_second : (x y : Range) → holds_some y ≡ false → have_common x y ≡ false
empty_second x y h = lt-leb (max x.first y.first) (min x.last y.last) (min_empty_second x.first y.first x.last y.last
    (leb-false y.first y.last h))

max_within : (a b c d : ℕ) → a ≤ c → b ≤ d → b ≤ c → a ≤ d → max a b ≤ min c d
max_within a b c d p q r s = grind (arith, common_steps)

-- ---- two lists

none_before : (x : Range) (ys : List Range) → All (λ y. x.last < y.first) ys → list_any (λ y. have_common x y) ys ≡ false
none_before x ys all = list_any_none (λ y. have_common x y) ys (All-weaker (λ y. x.last < y.first) (λ y. have_common x y ≡ false)
    (λ y h. before x y h) ys all)

-- the first range of the one ends before all of the other begin
pub first_aside : (x : Range) (xs : List Range) (y : Range) (ys : List Range) → IsOrdered (y ∷ ys) → x.last < y.first
    → ranges_meet (x ∷ xs) (y ∷ ys) ≡ ranges_meet xs (y ∷ ys)
first_aside x xs y ys order h =
    let all : All (λ z. x.last < z.first) (y ∷ ys) = All-cons (λ z. x.last < z.first) y ys h (All-weaker (λ z. y.first ≤ z.first)
    (λ z. x.last < z.first) (λ z p. omega arith) ys order.1) in
    ap (λ b. b || ranges_meet xs (y ∷ ys)) (none_before x (y ∷ ys) all)

without_second : (xs : List Range) (y : Range) (ys : List Range) → All (λ x. y.last < x.first) xs → ranges_meet xs (y ∷ ys)
    ≡ ranges_meet xs ys
without_second [] y ys all = refl
without_second (x ∷ xs) y ys all =
    rw (after x y (All-head (λ x. y.last < x.first) x xs all), without_second xs y ys (All-tail (λ x. y.last < x.first) x xs all))
    refl

pub second_aside : (x : Range) (xs : List Range) (y : Range) (ys : List Range) → IsOrdered (x ∷ xs) → y.last < x.first
    → ranges_meet (x ∷ xs) (y ∷ ys) ≡ ranges_meet (x ∷ xs) ys
second_aside x xs y ys order h =
    without_second (x ∷ xs) y ys (All-cons (λ z. y.last < z.first) x xs h (All-weaker (λ z. x.first ≤ z.first)
    (λ z. y.last < z.first) (λ z p. omega arith) xs order.1))

-- neither first range ends before the other begins
pub firsts_meet : (x : Range) (xs : List Range) (y : Range) (ys : List Range) → IsOrdered (x ∷ xs) → IsOrdered (y ∷ ys)
    → y.first ≤ x.last → x.first ≤ y.last
    → ranges_meet (x ∷ xs) (y ∷ ys) ≡ true
firsts_meet x xs y ys one other p q =
    let common : have_common x y ≡ true = le-leb (max x.first y.first) (min x.last y.last) (max_within x.first y.first x.last y.last
    one.0 other.0 p q) in
    rw common refl

pub none_meet : (xs : List Range) → ranges_meet xs [] ≡ false
none_meet [] = refl
none_meet (x ∷ xs) = none_meet xs

-- ---- from indexes on

ordered_from : (n : ℕ) (xs : List Range) → IsOrdered xs → IsOrdered (drop n xs)
ordered_from zero xs order = order
ordered_from (suc n) [] order = tt
ordered_from (suc n) (x ∷ xs) order = ordered_from n xs order.2

parted : (xs : List Range) (i : ℕ) (d : Range) → i < length xs → drop i xs ≡ get_or xs i d ∷ drop (i + 1) xs
parted xs i d h = let next : suc i ≡ i + 1 = omega arith in drop-cons xs i d h ∙ ap (λ (k : ℕ). get_or xs i d ∷ drop k xs) next

module _ (xs ys : List Range) (one : IsOrdered xs) (other : IsOrdered ys) (i j : ℕ) (d e : Range) (within : i < length xs)
    (inside : j < length ys) where
  left : IsOrdered (get_or xs i d ∷ drop (i + 1) xs)
  left = subst (λ zs. IsOrdered zs) (parted xs i d within) (ordered_from i xs one)

  right : IsOrdered (get_or ys j e ∷ drop (j + 1) ys)
  right = subst (λ zs. IsOrdered zs) (parted ys j e inside) (ordered_from j ys other)

  both : ranges_meet (drop i xs) (drop j ys) ≡ ranges_meet (get_or xs i d ∷ drop (i + 1) xs) (get_or ys j e ∷ drop (j + 1) ys)
  both =
      ap (λ zs. ranges_meet zs (drop j ys)) (parted xs i d within)
      ∙ ap (λ zs. ranges_meet (get_or xs i d ∷ drop (i + 1) xs) zs) (parted ys j e inside)

  pub first_passed : (get_or xs i d).last < (get_or ys j e).first → ranges_meet (drop i xs) (drop j ys)
      ≡ ranges_meet (drop (i + 1) xs) (drop j ys)
  first_passed h =
      both
      ∙ first_aside (get_or xs i d) (drop (i + 1) xs) (get_or ys j e) (drop (j + 1) ys) right h
      ∙ ap (λ zs. ranges_meet (drop (i + 1) xs) zs) (sym (parted ys j e inside))

  pub second_passed : (get_or ys j e).last < (get_or xs i d).first → ranges_meet (drop i xs) (drop j ys) ≡ ranges_meet (drop i xs)
      (drop (j + 1) ys)
  second_passed h =
      both
      ∙ second_aside (get_or xs i d) (drop (i + 1) xs) (get_or ys j e) (drop (j + 1) ys) left h
      ∙ ap (λ zs. ranges_meet zs (drop (j + 1) ys)) (sym (parted xs i d within))

  pub both_meet : (get_or ys j e).first ≤ (get_or xs i d).last → (get_or xs i d).first ≤ (get_or ys j e).last
      → ranges_meet (drop i xs) (drop j ys) ≡ true
  both_meet p q = both ∙ firsts_meet (get_or xs i d) (drop (i + 1) xs) (get_or ys j e) (drop (j + 1) ys) left right p q

pub first_ended : (xs ys : List Range) (i : ℕ) → length xs ≤ i → ranges_meet (drop i xs) ys ≡ false
first_ended xs ys i h = rw (drop_all i xs h) refl

pub second_ended : (xs ys : List Range) (j : ℕ) → length ys ≤ j → ranges_meet xs (drop j ys) ≡ false
second_ended xs ys j h = ap (λ zs. ranges_meet xs zs) (drop_all j ys h) ∙ none_meet xs

-- ---- what can replace what

any_alike : (p q : Range → Bool) (xs : List Range) → ((x : Range) → p x ≡ q x) → list_any p xs ≡ list_any q xs
any_alike p q [] same = refl
any_alike p q (x ∷ xs) same = rw (same x, any_alike p q xs same) refl

empty_meets_none : (ys : List Range) (x : Range) → holds_some x ≡ false → list_any (λ y. have_common x y) ys ≡ false
empty_meets_none [] x h = refl
empty_meets_none (y ∷ ys) x h = rw (empty x y h) (empty_meets_none ys x h)

pub meet_alike : (a b these those : List Range) → StandFor a these → StandFor b those → ranges_meet a b ≡ ranges_meet these those
meet_alike a b these those one other =
    one.same (λ x. list_any (λ y. have_common x y) b) (empty_meets_none b)
    ∙ any_alike (λ x. list_any (λ y. have_common x y) b) (λ x. list_any (λ y. have_common x y) those) these
    (λ x. other.same (λ y. have_common x y) (λ y h. empty_second x y h))

-- a sort by first numbers brings ranges that hold numbers into order
pub in_order : (xs : List Range) → All (λ x. x.first ≤ x.last) xs → IsNonDecreasingBy (λ x. x.first) xs → IsOrdered xs
in_order [] hold rising = tt
in_order (x ∷ xs) hold rising = (
  All-head (λ x. x.first ≤ x.last) x xs hold,
  (λ k d below. rising 0 (suc k) d (omega arith) (omega arith)),
  in_order xs (All-tail (λ x. x.first ≤ x.last) x xs hold) (λ i j d p q. rising (suc i) (suc j) d (omega arith) (omega arith)),
)

-- ---- one more range

pub one_kept : (whole ranges : List Range) (i : ℕ) (d : Range) → i < length ranges → holds_some (get_or ranges i d) ≡ true
    → AreWhole whole (take i ranges)
    → AreWhole (whole ++ get_or ranges i d ∷ []) (take (i + 1) ranges)
one_kept whole ranges i d within holds so_far = record {
  hold = All-push (λ x. x.first ≤ x.last) whole (get_or ranges i d) so_far.hold (leb-true (get_or ranges i d).first
      (get_or ranges i d).last holds);
  same = λ test none.
      list_any-append test whole (get_or ranges i d ∷ [])
      ∙ ap (λ b. list_any test whole || b) (or_false (test (get_or ranges i d)))
      ∙ ap (λ b. b || test (get_or ranges i d)) (so_far.same test none)
      ∙ sym (list_any_more test ranges i d within);
}

pub one_left : (whole ranges : List Range) (i : ℕ) (d : Range) → i < length ranges → holds_some (get_or ranges i d) ≡ false
    → AreWhole whole (take i ranges)
    → AreWhole whole (take (i + 1) ranges)
one_left whole ranges i d within holds so_far = record {
  hold = so_far.hold;
  same = λ test none.
      so_far.same test none
      ∙ sym (or_false (list_any test (take i ranges)))
      ∙ ap (λ b. list_any test (take i ranges) || b) (sym (none (get_or ranges i d) holds))
      ∙ sym (list_any_more test ranges i d within);
}
