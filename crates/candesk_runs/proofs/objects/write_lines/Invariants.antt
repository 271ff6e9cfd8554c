use Rattle.std.proofs.Common.{take}
use Rattle.byte_devices.specs.Device.{Wrote}
use Rattle.can_json_dump.specs.Dumps.{dump_lines}
use Rattle.candesk_runs.specs.Dumping.{lines_text}
use Rattle.candesk_runs.proofs.objects.write_lines.Given as goal

-- the lines so far are written
abbrev pub invariant-loop-index : goal.invariant-loop-index
invariant-loop-index g l = Wrote (g.W.Sink.written l.initial.sink) (g.W.Sink.written l.sink)
    (lines_text (take l.index (dump_lines l.dump)))
