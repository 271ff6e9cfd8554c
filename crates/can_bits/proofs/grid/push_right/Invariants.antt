use Rattle.std.proofs.Common.{◌≡◌, ◌++◌, ◌-◌, ◌≤◌, max, length, replicate}
use Rattle.dbc_values.specs.Lexical.{space}
use Rattle.can_bits.proofs.grid.push_right.Given as goal

abbrev pub invariant-loop-column : goal.invariant-loop-column
invariant-loop-column l = record {
  within : l._column ≤ max (length l.word) 4;
  pushed : l.text.items ≡ l.initial.text.items ++ replicate (l._column - length l.word) space;
}
