use Rattle.std.proofs.Common.{◌≡◌, take}
use Rattle.std.specs.List.{enumerate_from}
use Rattle.can_bits.specs.Cells.{IsTable}
use Rattle.can_bits.proofs.table.Table.of.Given as goal

abbrev pub invariant-loop-index : goal.invariant-loop-index
invariant-loop-index l = record {
  size : l.table.size ≡ l.size;
  marked : IsTable l.size (take l.index (enumerate_from 0 l.fields)) l.table.cells.items;
}
