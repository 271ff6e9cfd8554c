use Rattle.std.proofs.Common.{◌≡◌, ◌++◌, take}
use Rattle.std.specs.List.{flat_map}
use Rattle.can_entries.specs.Rows.{rows_of}
use Rattle.can_check.specs.MessageFaults.{repeated_in}
use Rattle.can_check.proofs.value_rules.push_all_repeated.Given as goal

-- the signals so far
abbrev pub invariant-loop-signal : goal.invariant-loop-signal
invariant-loop-signal g l = l.found.items ≡ l.initial.found.items ++ flat_map (repeated_in (rows_of l.head.number l.known) l.head)
    (take l.signal-index l.signals)
