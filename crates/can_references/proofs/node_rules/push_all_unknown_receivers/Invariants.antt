use Rattle.std.proofs.Common.{◌≡◌, ◌++◌, take}
use Rattle.std.specs.List.{flat_map}
use Rattle.can_references.specs.HeadFaults.{unknown_receivers}
use Rattle.can_references.proofs.node_rules.push_all_unknown_receivers.Given as goal

-- the signals so far
abbrev pub invariant-loop-signal : goal.invariant-loop-signal
invariant-loop-signal g l = l.found.items ≡ l.initial.found.items ++ flat_map (unknown_receivers l.known l.head)
    (take l.signal-index l.signals)
