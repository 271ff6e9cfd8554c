use Rattle.std.proofs.Common.{take}
use Rattle.byte_devices.specs.Device.{Wrote}
use Rattle.candesk_runs.specs.Dumping.{pictures_text}
use Rattle.candesk_runs.proofs.dumping.draw.Given as goal

-- the diagrams of the messages so far are written
abbrev pub invariant-loop-message : goal.invariant-loop-message
invariant-loop-message g l = Wrote (g.W.Sink.written l.initial.sink) (g.W.Sink.written l.sink)
    (pictures_text (g.L.Lookup.whole l.lookup) (take l.message-index l.messages))
