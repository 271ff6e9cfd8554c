use Rattle.std.proofs.Common.{◌≡◌, map, take}
use Rattle.std.specs.List.{All}
use Rattle.can_references.specs.Hashes.{hashed_bytes}
use Rattle.can_references.specs.SignalNames.{named_signal}
use Rattle.can_references.proofs.hashed_signals.hashed_all.Given as goal

-- the signals so far
abbrev pub invariant-loop-signal : goal.invariant-loop-signal
invariant-loop-signal l = record {
  keys : map (λ hashed. named_signal hashed.key) l.keys.items ≡ map named_signal (take l.signal-index l.signals);
  hashes : All (λ hashed. hashed.hash ≡ hashed_bytes hashed.key.0 hashed.key.1.now) l.keys.items;
}
