use Rattle.std.proofs.Common.{◌≡◌, ◌↔◌, ◌∙◌, ℕ, List, eqb, sym, subst, arith}
use Rattle.std.proofs.lemmas.Grind.{common_steps}
use Rattle.std.specs.List.{IsDistinct}
use Rattle.std.specs.List.Sorted.{IsPermutation, IsStrictlyIncreasing, IsSorted}
use Rattle.std.specs.Ordering.{nat_cmp, eq_by_cmp}
use Rattle.std.specs.Cmp.{unsigned_ties}
use Rattle.std.proofs.lemmas.List.Sorted.{IsPermutation-sym, IsNonDecreasingBy-from_sort}
use Rattle.std.proofs.lemmas.Map.Keys.{IsDistinct-IsPermutation, IsDistinct-from_apart, IsDistinct-from_sorted, apart_from_distinct}
use Rattle.std.proofs.lemmas.Map.Keys.{IsStrictlyIncreasing-from_distinct, sorted_from_strictly_increasing}
use Rattle.can_references.proofs.apart.all_differ.Goals as goal

tied : (x y : ℕ) → eqb x y ≡ eq_by_cmp nat_cmp x y
tied x y = grind (arith, common_steps, unsigned_ties)

flips : (x y : ℕ) → eqb x y ≡ eqb y x
flips x y = grind (arith, common_steps)

-- numbers that rise differ
rising_differ : (xs : List ℕ) → IsStrictlyIncreasing xs → IsDistinct eqb xs
rising_differ xs up =
    let sorted = IsDistinct-from_sorted nat_cmp xs (sorted_from_strictly_increasing xs up) in
    IsDistinct-from_apart eqb xs (λ i j d before within. tied _ _
    ∙ apart_from_distinct (eq_by_cmp nat_cmp) xs i j d sorted before within)

both : (xs ys : List ℕ) → IsPermutation xs ys → IsSorted nat_cmp ys → IsStrictlyIncreasing ys ↔ IsDistinct eqb xs
both xs ys moved sorted = (
  λ up. IsDistinct-IsPermutation eqb flips ys xs (IsPermutation-sym xs ys moved) (rising_differ ys up),
  λ differ. IsStrictlyIncreasing-from_distinct ys (IsNonDecreasingBy-from_sort (λ x. x) ys sorted)
      (IsDistinct-IsPermutation eqb flips xs ys moved differ),
)

pub returns : goal.returns
returns c =
    let same = both c.args.numbers.items c.sort_unstable.new.self.items c.sort_unstable.ensures.permutation
    c.sort_unstable.ensures.sorted in
    let here = c.as_slice.ensures.value in (
      λ yes. same.0 (subst IsStrictlyIncreasing here (c.is_strictly_increasing.ensures.0 yes)),
      λ differ. c.is_strictly_increasing.ensures.1 (subst IsStrictlyIncreasing (sym here) (same.1 differ)),
    )
