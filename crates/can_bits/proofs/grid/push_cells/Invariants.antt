use Rattle.std.proofs.Common.{◌≡◌, ◌++◌, ◌+◌, ◌*◌, take}
use Rattle.std.specs.List.{flat_map}
use Rattle.can_bits.specs.Grids.{right}
use Rattle.can_bits.specs.Cells.{shown, cell_at}
use Rattle.can_bits.proofs.grid.push_cells.Given as goal

abbrev pub invariant-loop-bit : goal.invariant-loop-bit
invariant-loop-bit l = l.text.items ≡ l.initial.text.items
    ++ flat_map (λ bit. right (shown (cell_at l.table.cells.items (8 * l.byte + bit)))) (take l.bit-index l.bit-items)
