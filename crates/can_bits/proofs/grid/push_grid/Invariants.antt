use Rattle.std.proofs.Common.{◌≡◌, ◌++◌}
use Rattle.std.specs.List.{flat_map, range_with_len}
use Rattle.can_bits.specs.Grids.{byte_line}
use Rattle.can_bits.proofs.grid.push_grid.Given as goal

abbrev pub invariant-loop-byte : goal.invariant-loop-byte
invariant-loop-byte l = l.text.items ≡ l.initial.text.items ++ flat_map (byte_line l.fields) (range_with_len 0 l.byte)
