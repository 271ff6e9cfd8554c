use Rattle.std.proofs.Common.{◌≡◌, drop}
use Rattle.dbc_edits.specs.Edits.{has_number}
use Rattle.dbc_edits.proofs.messages.has_number.Given as goal

abbrev pub invariant-loop-message : goal.invariant-loop-message
invariant-loop-message l = has_number l.number (drop l.message-index l.messages) ≡ has_number l.number l.messages
