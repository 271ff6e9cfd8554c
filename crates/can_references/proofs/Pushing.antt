-- One list of diagnostics pushed after another.
use Rattle.std.proofs.Common.{◌≡◌, List, ◌++◌, ap, ◌∙◌, append_assoc}
use Rattle.can_diagnostics.specs.declared.diagnostic.Diagnostic.{Diagnostic}

-- the later push is first, so that the tactics find what is between
pub pushed_then : (old mid new xs ys : List Diagnostic) → new ≡ mid ++ ys → mid ≡ old ++ xs → new ≡ old ++ (xs ++ ys)
pushed_then old mid new xs ys q p = q ∙ ap (λ (t : List Diagnostic). t ++ ys) p ∙ append_assoc old xs ys
