-- Diagnostics that are reported, a few at a time.
use Rattle.std.specs.Prelude.{◌≡◌, List, [], ◌++◌, Result, MatchResult}
use Rattle.std.proofs.Common.{sym, ap, ◌∙◌, append_assoc, append-nil}
use Rattle.can_diagnostics.specs.declared.diagnostic.Diagnostic.{Diagnostic}
use Rattle.dbc_values.specs.declared.stop.Stop.{Stop}

-- these were taken, or a prefix of them was, and then it stopped
abbrev pub Takes : {R X : Type 0} → (R → R → List Diagnostic → Type 0) → (R → R → Stop → List Diagnostic → Type 0) → R → R
    → Result X Stop → List Diagnostic → Type 0
Takes took stopped old new result found = MatchResult result (λ _. took old new found) (λ why. stopped old new why found)

-- ---- what a list that takes them relies on

pub following_none : {X : Type 0} (xs : List X) → xs ≡ xs ++ []
following_none xs = sym (append-nil xs)

pub after_both : {X : Type 0} (old mid new xs ys : List X) → mid ≡ old ++ xs → new ≡ mid ++ ys → new ≡ old ++ (xs ++ ys)
after_both {X = X} old mid new xs ys p q = q ∙ ap (λ (t : List X). t ++ ys) p ∙ append_assoc old xs ys
