-- A table with a cell for each bit of a message, in which fields are marked one after another.
use Rattle.std.specs.Prelude.{◌≡◌, ℕ, ◌+◌, ◌*◌, ◌<◌, Bool, List, [], ◌∷◌, ◌++◌, length, map, filter, slice_index_or, codes, decimal}
use Rattle.std.specs.Prelude.{if◌then◌else◌}
use Rattle.std.specs.List.{flat_map}
use Rattle.dbc_records.specs.declared.byte_order.ByteOrder.{ByteOrder}
use Rattle.dbc_records.specs.Records.{is_intel}
use Rattle.can_bits.specs.declared.cell.Cell.{Cell}
use Rattle.can_bits.specs.declared.cell.Cell.TheVariants.{Free, One, Several}
use Rattle.can_bits.specs.declared.field.Field.{Field}
use Rattle.can_bits.specs.Bits.{mirrored, has_position}
use Rattle.can_bits.specs.Grids.{right, bits_down}

-- the bit that comes after this many others in a byte order
abbrev pub numbered : ByteOrder → ℕ → ℕ
numbered order passed = if is_intel order then passed else mirrored passed

-- a cell, once another field has it too
abbrev pub marked : Cell → ℕ → Cell
marked Free index = One index
marked (One other) index = Several
marked Several index = Several

abbrev pub marked_if : Bool → Cell → ℕ → Cell
marked_if has cell index = if has then marked cell index else cell

abbrev pub shown : Cell → List ℕ
shown Free = codes "."
shown (One index) = decimal index
shown Several = codes "*"

-- the cell of a bit that the fields at these indexes have
abbrev pub cell_of : List ℕ → Cell
cell_of [] = Free
cell_of (index ∷ []) = One index
cell_of (index ∷ further) = Several

-- the indexes, among fields with their indexes, of those that have a bit at the position
abbrev pub indexes_among : List (ℕ × Field) → ℕ → List ℕ
indexes_among placed position = map (λ one. one.0) (filter (λ one. has_position one.1 position) placed)

abbrev pub cell_at : List Cell → ℕ → Cell
cell_at cells position = slice_index_or cells position Free

-- the table records for each bit which of the fields have it
pub record IsTable (size : ℕ) (placed : List (ℕ × Field)) (cells : List Cell) : Type 0 where
  pub count : length cells ≡ 8 * size
  pub each : (position : ℕ) → position < 8 * size → cell_at cells position ≡ cell_of (indexes_among placed position)

-- the cells of a byte
abbrev pub cells_text : List Cell → ℕ → List ℕ
cells_text cells byte = flat_map (λ bit. right (shown (cell_at cells (8 * byte + bit)))) bits_down

unfoldable pub cells_line : List Cell → ℕ → List ℕ
cells_line cells byte = right (decimal byte) ++ (codes ":" ++ (cells_text cells byte ++ codes "\n"))
