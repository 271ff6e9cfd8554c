use Rattle.std.proofs.Common.{◌≡◌, false, All, map, take}
use Rattle.can_references.specs.SignalNames.{named_signal}
use Rattle.can_references.specs.inner.SignalRuns.{signal_of, HasHash}
use Rattle.can_references.proofs.numbered_signals.numbered.Given as goal

-- the signals so far
abbrev pub invariant-loop-signal : goal.invariant-loop-signal
invariant-loop-signal l = record {
  signals : map signal_of l.numbered.items ≡ map named_signal (take l.signal-index l.signals);
  hashes : All (HasHash false) l.numbered.items;
}
