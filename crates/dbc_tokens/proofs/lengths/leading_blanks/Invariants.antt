use Rattle.std.proofs.Common.{◌≡◌, ◌+◌, ◌-◌, ◌≤◌, length, take, drop}
use Rattle.std.specs.List.{prefix_len}
use Rattle.dbc_values.specs.Lexical.{is_blank}
use Rattle.dbc_tokens.specs.Tokens.{line_feeds}
use Rattle.dbc_tokens.proofs.lengths.leading_blanks.Given as goal

abbrev pub invariant-loop-count : goal.invariant-loop-count
invariant-loop-count l = record {
  in_range : l.count ≤ length l.bytes;
  rest : l.count + prefix_len is_blank (drop l.count l.bytes) ≡ prefix_len is_blank l.bytes;
  feeds : l.feeds ≡ line_feeds (take l.count l.bytes);
  few : l.feeds ≤ l.count;
}

abbrev pub decreases-loop-count : goal.decreases-loop-count
decreases-loop-count l = length l.bytes - l.count
