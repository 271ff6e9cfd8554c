-- Lists of bytes that are one after the other, given by where each ends.
use Rattle.std.specs.Prelude.{ℕ, ◌≡◌, ◌≤◌, List, [], ◌∷◌, length, All}
use Rattle.std.specs.List.{slice_range}
use Rattle.dbc_values.specs.Pieces.{IsPiece}

-- the parts of the bytes that end at these positions, the first of them from `start` on
abbrev pub parts_from : ℕ → List ℕ → List ℕ → List (List ℕ)
parts_from start [] bytes = []
parts_from start (end ∷ ends) bytes = slice_range bytes start end ∷ parts_from end ends bytes

-- each part ends where it begins or later, and the last one at `total`
abbrev pub ArePlaces : ℕ → List ℕ → ℕ → Type 0
ArePlaces start [] total = start ≡ total
ArePlaces start (end ∷ ends) total = (start ≤ end) × ArePlaces end ends total

-- the parts are all of the bytes, and each is a token
pub record HoldPieces (ends bytes : List ℕ) : Type 0 where
  pub places : ArePlaces 0 ends (length bytes)
  pub pieces : All IsPiece (parts_from 0 ends bytes)
