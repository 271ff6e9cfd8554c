use Rattle.std.proofs.Common.{◌++◌, codes}
use Rattle.std.proofs.lemmas.Result.{MatchResult-from_err}
use Rattle.byte_devices.proofs.Outs.{Lost-item, Took-item}
use Rattle.can_diagnostics.specs.Lines.{line_text}
use Rattle.can_diagnostics.proofs.writing.send_lines.Goals as goal

pub returns-in_err-send_line : goal.returns-in_err-send_line
returns-in_err-send_line g c =
    MatchResult-from_err c.from_residual.result _ _ c.from_residual.ensures.0
    (λ _. Lost-item g.W.Sink.written (λ diagnostic. line_text diagnostic ++ codes "\n") c.args.found.now
    c.loop-diagnostic.diagnostic-index _ _ _ _ _ c.loop-diagnostic-test.true c.diagnostic-item.is c.loop-diagnostic.invariant
    c.in_err-send_line.ensures)

pub loop-diagnostic-preserved : goal.loop-diagnostic-preserved
loop-diagnostic-preserved g c =
    Took-item g.W.Sink.written (λ diagnostic. line_text diagnostic ++ codes "\n") c.args.found.now
    c.loop-diagnostic.diagnostic-index _ _ _ _ _ c.loop-diagnostic-test.true c.diagnostic-item.is c.loop-diagnostic.invariant
    c.in_ok-send_line.ensures
