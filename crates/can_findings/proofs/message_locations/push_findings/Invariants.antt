use Rattle.std.proofs.Common.{◌≡◌, ◌++◌, map}
use Rattle.can_findings.specs.MessageLocations.{findings_in}
use Rattle.can_findings.proofs.message_locations.push_findings.Given as goal

abbrev pub invariant-loop-diagnostic : goal.invariant-loop-diagnostic
invariant-loop-diagnostic l = l.findings.items ≡ l.initial.findings.items
    ++ map (findings_in l.rows l.here.message.now.signals l.here.start l.here.signals.now) l.yielded
