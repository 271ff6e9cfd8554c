-- A label, and after it the rest of a signal's text.
use Rattle.std.proofs.Common.{◌≡◌, ℕ, Bool, true, false, List, ◌++◌, codes, if◌then◌else◌, ap, ◌∙◌, append_assoc}
use Rattle.can_layout.specs.Plans.{label_of}
use Rattle.can_layout.specs.declared.row.Row.{Row}
use Rattle.can_decode.specs.Values.{reading_text}
use Rattle.can_decode.specs.DecodedLines.{signal_text, further_signal}

pub labelled_then : (some : Bool) (old mid new bytes : List ℕ) (row : Row) → new ≡ mid ++ reading_text bytes row.reading
    → mid ≡ old ++ (if some then label_of row else (row.name ++ codes ": "))
    → new ≡ old ++ (if some then further_signal bytes row else signal_text bytes row)
unfolding signal_text
labelled_then true old mid new bytes row q p =
    let rest = reading_text bytes row.reading in
    q ∙ ap (λ (t : List ℕ). t ++ rest) p ∙ append_assoc old (codes ", " ++ (row.name ++ codes ": ")) rest
    ∙ ap (λ (t : List ℕ). old ++ t) (append_assoc (codes ", ") (row.name ++ codes ": ") rest
    ∙ ap (λ (t : List ℕ). codes ", " ++ t) (append_assoc row.name (codes ": ") rest))
labelled_then false old mid new bytes row q p =
    let rest = reading_text bytes row.reading in
    q ∙ ap (λ (t : List ℕ). t ++ rest) p ∙ append_assoc old (row.name ++ codes ": ") rest
    ∙ ap (λ (t : List ℕ). old ++ t) (append_assoc row.name (codes ": ") rest)
