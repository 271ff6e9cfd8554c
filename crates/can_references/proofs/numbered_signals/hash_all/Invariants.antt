use Rattle.std.proofs.Common.{◌≡◌, ◌++◌, map, take, drop}
use Rattle.can_references.specs.inner.SignalRuns.{hashed}
use Rattle.can_references.proofs.numbered_signals.hash_all.Given as goal

-- the signals so far have their marks
abbrev pub invariant-loop-signal : goal.invariant-loop-signal
invariant-loop-signal l =
    l.signals ≡ map hashed (take l.signal-index l.initial.signals) ++ drop l.signal-index l.initial.signals
