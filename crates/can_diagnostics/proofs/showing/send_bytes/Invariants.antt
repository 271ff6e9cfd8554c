use Rattle.std.proofs.Common.{[], ◌∷◌, take}
use Rattle.std.specs.List.{flat_map}
use Rattle.byte_devices.specs.Outs.{Took}
use Rattle.can_diagnostics.specs.Lines.{shown_byte}
use Rattle.can_diagnostics.proofs.showing.send_bytes.Given as goal

abbrev pub invariant-loop-b : goal.invariant-loop-b
invariant-loop-b g l =
    Took g.W.Sink.written l.initial.out l.out (flat_map (λ b. shown_byte b ∷ []) (take l.b-index l.text))
