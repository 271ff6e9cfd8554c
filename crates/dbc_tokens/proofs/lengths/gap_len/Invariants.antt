use Rattle.std.proofs.Common.{◌≡◌, ◌+◌, ◌-◌, ◌≤◌, false, length, drop}
use Rattle.dbc_tokens.specs.inner.Scanner.{gap_len}
use Rattle.dbc_tokens.proofs.lengths.gap_len.Given as goal

abbrev pub invariant-loop-at : goal.invariant-loop-at
invariant-loop-at l = record {
  in_range : l.at ≤ length l.bytes;
  rest : l.at + gap_len false (drop l.at l.bytes) ≡ gap_len false l.bytes;
}

abbrev pub decreases-loop-at : goal.decreases-loop-at
decreases-loop-at l = length l.bytes - l.at
