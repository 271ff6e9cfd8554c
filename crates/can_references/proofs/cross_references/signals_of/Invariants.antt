use Rattle.std.proofs.Common.{◌≡◌, map, take}
use Rattle.std.specs.List.{flat_map}
use Rattle.can_references.specs.SignalNames.{named_signal}
use Rattle.can_references.specs.CrossReferences.{signals_in}
use Rattle.can_references.proofs.cross_references.signals_of.Given as goal

-- the signals of the messages so far
abbrev pub invariant-loop-message : goal.invariant-loop-message
invariant-loop-message l = map named_signal l.names.items ≡ flat_map signals_in (take l.message-index l.messages)
