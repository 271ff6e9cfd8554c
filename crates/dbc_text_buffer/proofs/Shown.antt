-- Texts without an end of a line are shown as they are.
use Rattle.std.proofs.Common.{◌≡◌, ℕ, false, List, [], ◌∷◌, refl, arith}
use Rattle.std.specs.List.{list_any}
use Rattle.dbc_text_buffer.specs.Shown.{breaks_line, shown}

pub shown_whole : (text : List ℕ) → list_any breaks_line text ≡ false → shown text ≡ text
shown_whole [] whole = refl
shown_whole (b ∷ text) whole =
    let first : breaks_line b ≡ false = grind (arith, whole) in
    let rest : list_any breaks_line text ≡ false = grind (arith, whole) in
    rw (first, shown_whole text rest) refl
