-- The bits of a message, drawn: a line for each byte, with a cell for each of its bits.
use Rattle.std.specs.Prelude.{ℕ, ◌+◌, ◌-◌, ◌*◌, List, [], ◌∷◌, ◌++◌, length, map, filter, replicate, codes, decimal}
use Rattle.std.specs.List.{flat_map, range_with_len, enumerate_from}
use Rattle.dbc_values.specs.Lexical.{space}
use Rattle.can_bits.specs.declared.field.Field.{Field}
use Rattle.can_bits.specs.Bits.{has_position}

-- the indexes of the fields that have a bit at the position
unfoldable pub indexes_at : List Field → ℕ → List ℕ
indexes_at fields position = map (λ placed. placed.0) (filter (λ placed. has_position placed.1 position) (enumerate_from 0 fields))

-- a point if no field has the bit, the field's index if one has it, and a star if several have it
abbrev pub cell_text : List ℕ → List ℕ
cell_text [] = codes "."
cell_text (index ∷ []) = decimal index
cell_text (index ∷ further) = codes "*"

-- right-aligned to four columns
unfoldable pub right : List ℕ → List ℕ
right text = replicate (4 - length text) space ++ text

-- the bits of a byte, the most significant first
abbrev pub bits_down : List ℕ
bits_down = 7 ∷ 6 ∷ 5 ∷ 4 ∷ 3 ∷ 2 ∷ 1 ∷ 0 ∷ []

-- `   0:   .   .   *   1   1   1   0   0`
unfoldable pub byte_line : List Field → ℕ → List ℕ
byte_line fields byte = right (decimal byte)
    ++ (codes ":" ++ (flat_map (λ bit. right (cell_text (indexes_at fields (8 * byte + bit)))) bits_down ++ codes "\n"))

-- a line for each byte
unfoldable pub grid_text : ℕ → List Field → List ℕ
grid_text size fields = flat_map (byte_line fields) (range_with_len 0 size)
