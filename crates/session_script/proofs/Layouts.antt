-- The reply with a diagram.
use Rattle.std.proofs.Common.{◌≡◌, ◌++◌, ℕ, List, map, get_or, refl, sym, ◌∙◌}
use Rattle.std.specs.Prelude.{Option, Some, None, option_map, slice_get}
use Rattle.std.proofs.lemmas.Option.{slice_get-map, get_or_from_slice_get}
use Rattle.std.specs.Option.{option_map_or}

pub by_picture : {X : Type 0} (f : X → List ℕ) (message : Option X) (picture : Option (List ℕ)) (ok refused : List ℕ)
    → picture ≡ option_map f message
    → option_map_or (λ m. f m ++ ok) message refused ≡ option_map_or (λ p. p ++ ok) picture refused
by_picture f None picture ok refused is = rw is refl
by_picture f (Some m) picture ok refused is = rw is refl

-- what is returned by reference for an index is what is there
pub at_index : {X Y : Type 0} (f : X → Y) (xs : List X) (i : ℕ) (y d : Y) → Some y ≡ option_map f (slice_get xs i)
    → y ≡ get_or (map f xs) i d
at_index f xs i y d is = sym (get_or_from_slice_get (map f xs) i y d (slice_get-map f xs i ∙ sym is))
