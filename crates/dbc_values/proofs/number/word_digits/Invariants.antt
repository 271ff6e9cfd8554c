use Rattle.std.proofs.Common.{◌≡◌, ◌+◌, ◌*◌, ◌^◌, ◌≤◌}
use Rattle.dbc_values.proofs.number.word_digits.Given as goal

abbrev pub invariant-loop-front : goal.invariant-loop-front
invariant-loop-front l = record {
  value : l.value ≡ l.front * 10 ^ l.zeros;
  few : l.zeros + l.front ≤ l.value;
}

abbrev pub decreases-loop-front : goal.decreases-loop-front
decreases-loop-front l = l.front
