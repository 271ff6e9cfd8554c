use Rattle.std.proofs.Common.{take}
use Rattle.byte_devices.specs.Device.{Wrote}
use Rattle.candesk_runs.specs.FindingObjects.{findings_text}
use Rattle.candesk_runs.proofs.finding_objects.write_lines.Given as goal

-- the lines of the findings so far are written
abbrev pub invariant-loop-finding : goal.invariant-loop-finding
invariant-loop-finding g l = Wrote (g.W.Sink.written l.initial.sink) (g.W.Sink.written l.sink)
    (findings_text l.text (take l.finding-index l.found))
