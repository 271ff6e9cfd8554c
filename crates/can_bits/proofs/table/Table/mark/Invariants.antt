use Rattle.std.proofs.Common.{◌≡◌, ℕ, ◌*◌, ◌<◌, vec_len}
use Rattle.can_bits.specs.Steps.{passed_at}
use Rattle.can_bits.specs.Cells.{cell_at, marked_if, numbered}
use Rattle.can_bits.proofs.Tables.{covers}
use Rattle.can_bits.proofs.table.Table.mark.Given as goal

-- the positions walked so far are marked once more, and the others are as they were
abbrev pub invariant-loop-passed : goal.invariant-loop-passed
invariant-loop-passed l = record {
  size : l.self.size ≡ l.initial.self.size;
  count : vec_len l.self.cells ≡ 8 * l.initial.self.size;
  each : (position : ℕ) → position < 8 * l.initial.self.size
      → cell_at l.self.cells.items position ≡ marked_if (covers (passed_at l.field 0) l.passed (numbered l.field.order position))
      (cell_at l.initial.self.cells.items position) l.index;
}
