use Rattle.std.proofs.Common.{◌≡◌, ◌++◌, length}
use Rattle.can_json_findings.specs.Locations.{signals_lines}
use Rattle.can_json_findings.proofs.message_locations.push_signals.Given as goal

-- the lines so far and those that are left are all of them
abbrev pub invariant-signals : goal.invariant-signals
invariant-signals l =
    l.lines.items ++ signals_lines l.text l.message.head l.left l.further
    ≡ l.initial.lines.items ++ signals_lines l.text l.message.head l.message.signals l.starts

abbrev pub decreases-signals : goal.decreases-signals
decreases-signals l = length l.left
