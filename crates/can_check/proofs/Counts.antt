-- Counts of elements, and lists made of lists.
use Rattle.std.proofs.Common.{◌≡◌, ℕ, Bool, List, [], ◌∷◌, map, length, refl, ap, ◌∙◌}
use Rattle.std.specs.List.{list_any, range_with_len}
use Rattle.std.proofs.lemmas.List.FromFn.{length-map-range_with_len}

-- as many multiplexing chains as signals
pub as_many : {X : Type 0} (f : ℕ → X) (items : List X) (count : ℕ) → items ≡ map f (range_with_len 0 count) → length items ≡ count
as_many f items count is = ap length is ∙ length-map-range_with_len f 0 count

pub any_of_map : {X Y : Type 0} (test : Y → Bool) (g : X → Y) (xs : List X) → list_any test (map g xs)
    ≡ list_any (λ x. test (g x)) xs
any_of_map test g [] = refl
any_of_map test g (x ∷ xs) = rw (any_of_map test g xs) refl
