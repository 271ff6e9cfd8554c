use Rattle.std.proofs.Common.{◌≡◌, drop}
use Rattle.std.specs.List.{list_any}
use Rattle.can_references.specs.inner.KeySets.{RisesFrom}
use Rattle.can_references.specs.inner.SignalRuns.{message_number, is_signal}
use Rattle.can_references.proofs.numbered_signals.starts_with_signal.Given as goal

-- the signals so far are others
abbrev pub invariant-loop-signal : goal.invariant-loop-signal
invariant-loop-signal l = record {
  rises : RisesFrom message_number l.number (drop l.signal-index l.signals);
  all : list_any (is_signal l.number l.name) (drop l.signal-index l.signals) ≡ list_any (is_signal l.number l.name) l.signals;
}
