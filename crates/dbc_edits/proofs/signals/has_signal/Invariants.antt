use Rattle.std.proofs.Common.{◌≡◌, drop}
use Rattle.dbc_edits.specs.Edits.{has_signal}
use Rattle.dbc_edits.proofs.signals.has_signal.Given as goal

abbrev pub invariant-loop-message : goal.invariant-loop-message
invariant-loop-message l = has_signal l.number l.name (drop l.message-index l.messages) ≡ has_signal l.number l.name l.messages
