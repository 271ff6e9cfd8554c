use Rattle.std.proofs.Common.{◌≡◌, ◌++◌, take}
use Rattle.can_check.specs.MessageFaults.{signals_where}
use Rattle.can_check.proofs.signal_rules.push_where.Given as goal

-- the signals so far
abbrev pub invariant-loop-signal : goal.invariant-loop-signal
invariant-loop-signal g l = l.found.items ≡ l.initial.found.items ++ signals_where l.code l.head (g.T.SignalTest.passes l.test)
    (take l.signal-index l.signals)
