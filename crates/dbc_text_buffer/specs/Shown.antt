-- Texts on one line.
use Rattle.std.specs.Prelude.{ℕ, ◌==◌, ◌||◌, Bool, List, map, if◌then◌else◌}
use Rattle.dbc_values.specs.Lexical.{space, line_feed, carriage_return}

-- CR and LF are shown as a blank, so that a line stays one
abbrev pub breaks_line : ℕ → Bool
breaks_line b = b == carriage_return || b == line_feed

abbrev pub shown_byte : ℕ → ℕ
shown_byte b = if breaks_line b then space else b

abbrev pub shown : List ℕ → List ℕ
shown text = map shown_byte text
