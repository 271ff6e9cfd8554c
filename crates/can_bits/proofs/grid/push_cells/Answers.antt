use Rattle.std.proofs.Common.{◌≡◌, ℕ, ◌+◌, ◌*◌, ◌++◌, List, get_or, ap, ◌∙◌, arith}
use Rattle.can_bits.specs.declared.cell.Cell.{Cell}
use Rattle.can_bits.specs.Grids.{right, bits_down}
use Rattle.can_bits.specs.Cells.{shown, cell_at}
use Rattle.can_bits.proofs.Marks.{one_more_text}
use Rattle.can_bits.proofs.grid.push_cells.Goals as goal

pub loop-bit-preserved : goal.loop-bit-preserved
loop-bit-preserved c =
    let cells : List Cell = c.args.table.now.cells.items in
    let text : ℕ → List ℕ = λ bit. right (shown (cell_at cells (8 * c.args.byte + bit))) in
    let bit : ℕ = get_or bits_down c.loop-bit.bit-index 0 in
    let position : 8 * c.from.result + c.from-in-loop-bit.result ≡ 8 * c.args.byte + bit =
    omega (arith, c.from.ensures, c.from-in-loop-bit.ensures) in
    let cell : c.at.result ≡ cell_at cells (8 * c.args.byte + bit) = c.at.ensures ∙ ap (cell_at cells) position in
    one_more_text text c.args.text.now.items c.loop-bit.text.items c.push_cell.new.text.items bits_down c.loop-bit.bit-index 0
    c.loop-bit-test.true c.loop-bit.invariant
    (c.in_ok-push_cell.ensures ∙ ap (λ (one : Cell). c.loop-bit.text.items ++ right (shown one)) cell)
