use Rattle.std.proofs.Common.{take}
use Rattle.std.specs.List.{flat_map}
use Rattle.byte_devices.specs.Outs.{Took}
use Rattle.can_diagnostics.specs.Lines.{blanked}
use Rattle.can_diagnostics.proofs.showing.send_each.Given as goal

abbrev pub invariant-loop-piece : goal.invariant-loop-piece
invariant-loop-piece g l =
    Took g.W.Sink.written l.initial.out l.out (flat_map (λ piece. blanked piece.now) (take l.piece-index l.pieces))
