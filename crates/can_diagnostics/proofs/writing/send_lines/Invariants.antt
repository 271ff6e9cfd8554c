use Rattle.std.proofs.Common.{◌++◌, codes, take}
use Rattle.std.specs.List.{flat_map}
use Rattle.byte_devices.specs.Outs.{Took}
use Rattle.can_diagnostics.specs.Lines.{line_text}
use Rattle.can_diagnostics.proofs.writing.send_lines.Given as goal

abbrev pub invariant-loop-diagnostic : goal.invariant-loop-diagnostic
invariant-loop-diagnostic g l =
    Took g.W.Sink.written l.initial.out l.out (flat_map (λ diagnostic. line_text diagnostic ++ codes "\n")
    (take l.diagnostic-index l.found))
