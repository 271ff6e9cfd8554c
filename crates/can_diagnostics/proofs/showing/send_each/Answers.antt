use Rattle.std.proofs.Common.{refl}
use Rattle.std.proofs.lemmas.Result.{MatchResult-from_err}
use Rattle.byte_devices.proofs.Outs.{Lost-item, Took-item}
use Rattle.can_diagnostics.specs.Lines.{blanked}
use Rattle.can_diagnostics.proofs.showing.send_each.Goals as goal

pub returns-in_err-send_blanked : goal.returns-in_err-send_blanked
returns-in_err-send_blanked g c =
    MatchResult-from_err c.from_residual.result _ _ c.from_residual.ensures.0
    (λ _. Lost-item g.W.Sink.written (λ piece. blanked piece.now) c.args.pieces.now c.loop-piece.piece-index _ _ _ _ _
    c.loop-piece-test.true refl c.loop-piece.invariant c.in_err-send_blanked.ensures)

pub loop-piece-preserved : goal.loop-piece-preserved
loop-piece-preserved g c =
    Took-item g.W.Sink.written (λ piece. blanked piece.now) c.args.pieces.now c.loop-piece.piece-index _ _ _ _ _
    c.loop-piece-test.true refl c.loop-piece.invariant c.in_ok-send_blanked.ensures
