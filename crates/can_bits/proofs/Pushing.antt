-- Two texts pushed, one after the other.
use Rattle.std.proofs.Common.{◌≡◌, ℕ, List, ◌++◌, ap, ◌∙◌, append_assoc}

-- with the later push first, the tactics find what is between
pub pushed_then : (old mid new xs ys : List ℕ) → new ≡ mid ++ ys → mid ≡ old ++ xs → new ≡ old ++ (xs ++ ys)
pushed_then old mid new xs ys later first = later ∙ ap (λ (text : List ℕ). text ++ ys) first ∙ append_assoc old xs ys
