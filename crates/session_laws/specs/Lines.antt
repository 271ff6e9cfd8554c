-- The lines of an input reproduce it.
use Rattle.std.specs.Prelude.{◌≡◌, ◌≢◌, ◌==◌, ℕ, List, [], ◌∷◌, ◌++◌, if◌then◌else◌}
use Rattle.std.specs.List.{flat_map, AllByRecursion}
use Rattle.dbc_values.specs.Lexical.{line_feed}
use Rattle.can_line_stream.specs.Lines.{lines_of}

-- the input with a line feed at its end, if it has bytes
abbrev pub closed : List ℕ → List ℕ
closed [] = []
closed (b ∷ []) = if b == line_feed then b ∷ [] else b ∷ line_feed ∷ []
closed (b ∷ c ∷ bytes) = b ∷ closed (c ∷ bytes)

-- lines, each with a line feed after it
abbrev pub joined : List (List ℕ) → List ℕ
joined lines = flat_map (λ line. line ++ line_feed ∷ []) lines

-- no line has a line feed, and joined they are the input, closed
abbrev pub LinesJoin : Type 0
LinesJoin = (input : List ℕ) → (joined (lines_of input) ≡ closed input)
    × AllByRecursion (AllByRecursion (λ b. b ≢ line_feed)) (lines_of input)
