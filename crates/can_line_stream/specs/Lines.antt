-- The lines of an input.
use Rattle.std.specs.Prelude.{ℕ, ◌==◌, ◌≤◌, List, [], ◌∷◌, length, if◌then◌else◌}
use Rattle.std.specs.List.{onto_first, AllByRecursion}
use Rattle.dbc_values.specs.Lexical.{line_feed}

-- The lines: the pieces between LF. None is after a last LF, and an input without bytes has none.
abbrev pub lines_of : List ℕ → List (List ℕ)
lines_of [] = []
lines_of (b ∷ bytes) = if b == line_feed then [] ∷ lines_of bytes else onto_first b (lines_of bytes)

-- a byte is added to the front of the first line, if there is one
abbrev pub onto_whole : ℕ → List (List ℕ) → List (List ℕ)
onto_whole b [] = []
onto_whole b (line ∷ lines) = (b ∷ line) ∷ lines

-- the lines that an LF ends
abbrev pub whole_lines : List ℕ → List (List ℕ)
whole_lines [] = []
whole_lines (b ∷ bytes) = if b == line_feed then [] ∷ whole_lines bytes else onto_whole b (whole_lines bytes)

-- a line, finished or not, that isn't long, where this many bytes are the most that it may have
abbrev pub IsShort : ℕ → List ℕ → Type 0
IsShort most line = length line ≤ most

abbrev pub AllShort : ℕ → List (List ℕ) → Type 0
AllShort most lines = AllByRecursion (IsShort most) lines
