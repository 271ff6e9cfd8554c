-- How far reading has come: bytes as lines with their LF, and a rest.
use Rattle.std.specs.Prelude.{◌≡◌, ℕ, ◌==◌, false, List, [], ◌∷◌, ◌++◌}
use Rattle.std.specs.List.{flat_map, AllByRecursion}
use Rattle.dbc_values.specs.Lexical.{line_feed}

abbrev pub HasNoLineFeed : List ℕ → Type 0
HasNoLineFeed bytes = AllByRecursion (λ b. (b == line_feed) ≡ false) bytes

abbrev pub with_line_feed : List ℕ → List ℕ
with_line_feed line = line ++ line_feed ∷ []

-- the bytes are these lines, each with its LF, and then the rest
pub record Cuts (bytes : List ℕ) (lines : List (List ℕ)) (rest : List ℕ) : Type 0 where
  pub whole : bytes ≡ flat_map with_line_feed lines ++ rest
  pub each : AllByRecursion HasNoLineFeed lines
