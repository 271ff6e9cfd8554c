use Rattle.std.proofs.Common.{◌≡◌, ◌++◌, false, [], take}
use Rattle.std.specs.List.{flat_map}
use Rattle.can_entries.specs.Rows.{rows_of}
use Rattle.can_check.specs.MessageFaults.{named, out_of_range, repeated_in}
use Rattle.can_check.proofs.value_rules.push_all_out_of_range.Given as goal

-- the signals so far
abbrev pub invariant-loop-signal : goal.invariant-loop-signal
invariant-loop-signal g l =
    record {
      found : l.found.items ≡ l.initial.found.items ++ flat_map (λ signal. flat_map (out_of_range l.head signal)
          (named (rows_of l.head.number l.known) signal)) (take l.signal-index l.signals);
      repeated : l.repeats ≡ false → flat_map (repeated_in (rows_of l.head.number l.known) l.head) (take l.signal-index l.signals)
          ≡ [];
    }
