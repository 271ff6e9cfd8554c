-- What a list keeps of its items is what they were.
use Rattle.std.proofs.Common.{Bool, true, false, List, [], ◌∷◌, All, suc, arith}
use Rattle.std.specs.List.{items_where_true}
use Rattle.std.specs.List.Retain.{IsFiltered}
use Rattle.std.proofs.lemmas.List.Elements.{All-cons}

rest : {X : Type 0} (P : X → Type 0) (x : X) (xs : List X) → All P (x ∷ xs) → All P xs
rest P x xs all = λ k d bound. all (suc k) d (omega (arith, bound))

picked : {X : Type 0} (P : X → Type 0) (bs : List Bool) (xs : List X) → All P xs → All P (items_where_true bs xs)
picked P [] xs all = λ k d bound. absurd (omega (arith, bound))
picked P (b ∷ bs) [] all = λ k d bound. absurd (omega (arith, bound))
picked P (true ∷ bs) (x ∷ xs) all = All-cons P x _ (all 0 x (omega arith)) (picked P bs xs (rest P x xs all))
picked P (false ∷ bs) (x ∷ xs) all = picked P bs xs (rest P x xs all)

pub kept : {X S : Type 0} (R : S → X → Bool → S → Type 0) (P : X → Type 0) (s : S) (xs ys : List X) → IsFiltered R s xs ys
    → All P xs → All P ys
kept R P s xs ys given all = rw (given.4) (picked P given.0 xs all)
