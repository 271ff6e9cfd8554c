use Rattle.std.proofs.Common.{◌≡◌, List, ℕ, map, subst}
use Rattle.std.specs.List.Sorted.{IsPermutation}
use Rattle.std.proofs.lemmas.List.Sorted.{All-permutation, IsPermutation-map}
use Rattle.can_references.specs.Hashes.{hashed_bytes}
use Rattle.can_references.proofs.names.Names.of.Goals as goal

pub invariant_of-result : goal.invariant_of-result
invariant_of-result c = All-permutation (λ hashed. hashed.hash ≡ hashed_bytes 0 hashed.key.now) _ _ c.of.ensures
    c.in_ok-hashed_all.ensures.hashes

pub returns : goal.returns
returns c = subst (λ (l : List (List ℕ)). IsPermutation l (map (λ hashed. hashed.key.now) c.of.result))
    c.in_ok-hashed_all.ensures.keys
    (IsPermutation-map (λ hashed. hashed.key.now) _ _ c.of.ensures)
