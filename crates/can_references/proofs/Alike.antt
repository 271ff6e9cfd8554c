-- Items in any order are shared, and occur, as they do in their own order.
use Rattle.std.proofs.Common.{◌≡◌, Bool, cond, List, ap, sym}
use Rattle.std.specs.Prelude.{nat_le, count_by}
use Rattle.std.specs.List.{list_any}
use Rattle.std.specs.List.Sorted.{IsPermutation}
use Rattle.std.proofs.lemmas.List.Sorted.{sum_by-IsPermutation, list_any-IsPermutation}

pub shared_alike : {X : Type 0} (test : X → Bool) (xs ys : List X) → IsPermutation xs ys → nat_le 2 (count_by test ys)
    ≡ nat_le 2 (count_by test xs)
shared_alike test xs ys same = ap (nat_le 2) (sum_by-IsPermutation (λ x. cond (test x) 1 0) xs ys same)

pub occurs_alike : {X : Type 0} (test : X → Bool) (xs ys : List X) → IsPermutation xs ys → list_any test ys ≡ list_any test xs
occurs_alike test xs ys same = sym (list_any-IsPermutation test xs ys same)
