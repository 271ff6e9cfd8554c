use Rattle.std.proofs.Common.{◌≡◌, ◌+◌, ◌-◌, ◌<◌, ◌≤◌, false, length, drop, get_or}
use Rattle.std.specs.Option.{option_map}
use Rattle.dbc_values.specs.Lexical.{quote}
use Rattle.dbc_tokens.specs.inner.Scanner.{text_len}
use Rattle.dbc_tokens.proofs.lengths.text_len.Given as goal

-- no quote before this position closes, and the byte directly before it is a quote, so no backslash
abbrev pub invariant-loop-n : goal.invariant-loop-n
invariant-loop-n l = record {
  in_range : l.at ≤ length l.bytes;
  before : 0 < l.at → get_or l.bytes (l.at - 1) 0 ≡ quote;
  rest : option_map (λ n. l.at + n) (text_len false (drop l.at l.bytes)) ≡ text_len false l.bytes;
}

abbrev pub decreases-loop-n : goal.decreases-loop-n
decreases-loop-n l = length l.bytes - l.at
