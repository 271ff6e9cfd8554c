use Rattle.std.proofs.Common.{take}
use Rattle.std.specs.List.{flat_map}
use Rattle.byte_devices.specs.Outs.{Took}
use Rattle.can_findings.specs.Remedies.{explained_text}
use Rattle.can_findings.proofs.explaining.write_all.Given as goal

abbrev pub invariant-loop-finding : goal.invariant-loop-finding
invariant-loop-finding g l =
    Took g.W.Sink.written l.initial.out l.out (flat_map explained_text (take l.finding-index l.found))
