-- One text put after another.
use Rattle.std.proofs.Common.{◌≡◌, ℕ, List, ◌++◌, ap, ◌∙◌, append_assoc}

-- the later part is first, so that the tactics find what is between
pub pushed_then : (old mid new xs ys : List ℕ) → new ≡ mid ++ ys → mid ≡ old ++ xs → new ≡ old ++ (xs ++ ys)
pushed_then old mid new xs ys q p = q ∙ ap (λ (t : List ℕ). t ++ ys) p ∙ append_assoc old xs ys
