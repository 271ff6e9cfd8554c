use Rattle.std.proofs.Common.{take}
use Rattle.std.specs.List.{flat_map}
use Rattle.byte_devices.specs.Outs.{Took}
use Rattle.byte_devices.proofs.sending.Out.send_pieces.Given as goal

-- the pieces so far were sent
abbrev pub invariant-loop-piece : goal.invariant-loop-piece
invariant-loop-piece g l = Took g.W.Sink.written l.initial.self l.self (flat_map (λ piece. piece.now) (take l.piece-index l.pieces))
