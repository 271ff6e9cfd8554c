use Rattle.std.proofs.Common.{◌≡◌, ◌≤◌, ◌+◌, ◌-◌, length, not, drop}
use Rattle.std.specs.List.{prefix_len}
use Rattle.can_frames.specs.LogLines.{is_log_blank}
use Rattle.can_frames.proofs.line.word_len.Given as goal

-- the word goes on up to here
abbrev pub invariant-loop-run : goal.invariant-loop-run
invariant-loop-run l = record {
  in_range : l.from ≤ length l.bytes;
  rest : l.from + prefix_len (λ b. not (is_log_blank b)) (drop l.from l.bytes) ≡ prefix_len (λ b. not (is_log_blank b)) l.bytes;
}

abbrev pub decreases-loop-run : goal.decreases-loop-run
decreases-loop-run l = length l.bytes - l.from
