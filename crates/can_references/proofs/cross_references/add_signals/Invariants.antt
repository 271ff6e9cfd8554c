use Rattle.std.proofs.Common.{◌≡◌, ◌++◌, map, take}
use Rattle.can_references.specs.SignalNames.{named_signal}
use Rattle.can_references.proofs.cross_references.add_signals.Given as goal

-- the signals so far
abbrev pub invariant-loop-signal : goal.invariant-loop-signal
invariant-loop-signal l = map named_signal l.names.items ≡ map named_signal l.initial.names.items
    ++ map (λ signal. (l.number, signal.name)) (take l.signal-index l.signals)
