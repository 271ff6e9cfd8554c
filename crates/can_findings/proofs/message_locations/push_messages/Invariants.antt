use Rattle.std.proofs.Common.{◌≡◌, ◌++◌, length}
use Rattle.can_findings.specs.MessageLocations.{message_findings}
use Rattle.can_findings.proofs.message_locations.push_messages.Given as goal

-- what is left is put after what was found
abbrev pub invariant-messages : goal.invariant-messages
invariant-messages g l =
    l.findings.items ++ message_findings l.known l.rows l.left l.heads l.further
    ≡ l.initial.findings.items ++ message_findings l.known l.rows l.messages l.starts.messages l.starts.signals

abbrev pub decreases-messages : goal.decreases-messages
decreases-messages g l = length l.left
