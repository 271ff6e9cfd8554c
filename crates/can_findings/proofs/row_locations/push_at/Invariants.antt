use Rattle.std.proofs.Common.{◌≡◌, ◌++◌, map}
use Rattle.can_findings.specs.RowLocations.{findings_at}
use Rattle.can_findings.proofs.row_locations.push_at.Given as goal

abbrev pub invariant-loop-diagnostic : goal.invariant-loop-diagnostic
invariant-loop-diagnostic l = l.findings.items ≡ l.initial.findings.items ++ map (findings_at l.fn.start) l.yielded
