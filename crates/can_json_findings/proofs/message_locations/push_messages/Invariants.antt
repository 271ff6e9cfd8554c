use Rattle.std.proofs.Common.{◌≡◌, ◌++◌, length}
use Rattle.can_json_findings.specs.Locations.{message_lines}
use Rattle.can_json_findings.proofs.message_locations.push_messages.Given as goal

-- the lines so far and those that are left are all of them
abbrev pub invariant-messages : goal.invariant-messages
invariant-messages l =
    l.lines.items ++ message_lines l.text l.left l.further l.rest
    ≡ l.initial.lines.items ++ message_lines l.text l.messages l.heads l.signals

abbrev pub decreases-messages : goal.decreases-messages
decreases-messages l = length l.left
