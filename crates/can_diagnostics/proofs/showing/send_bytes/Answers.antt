use Rattle.std.proofs.Common.{[], ◌∷◌, refl}
use Rattle.std.proofs.lemmas.Result.{MatchResult-from_err}
use Rattle.byte_devices.proofs.Outs.{Lost-item, Took-item}
use Rattle.can_diagnostics.specs.Lines.{shown_byte}
use Rattle.can_diagnostics.proofs.showing.send_bytes.Goals as goal

pub returns-in_err-send_shown_byte : goal.returns-in_err-send_shown_byte
returns-in_err-send_shown_byte g c =
    MatchResult-from_err c.from_residual.result _ _ c.from_residual.ensures.0
    (λ _. Lost-item g.W.Sink.written (λ b. shown_byte b ∷ []) c.args.text.now c.loop-b.b-index _ _ _ _ _ c.loop-b-test.true refl
    c.loop-b.invariant c.in_err-send_shown_byte.ensures)

pub loop-b-preserved : goal.loop-b-preserved
loop-b-preserved g c =
    Took-item g.W.Sink.written (λ b. shown_byte b ∷ []) c.args.text.now c.loop-b.b-index _ _ _ _ _ c.loop-b-test.true refl
    c.loop-b.invariant c.in_ok-send_shown_byte.ensures
