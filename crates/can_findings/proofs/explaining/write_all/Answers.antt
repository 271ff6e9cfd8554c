use Rattle.std.proofs.lemmas.Result.{MatchResult-from_err}
use Rattle.byte_devices.proofs.Outs.{Lost-item, Took-item}
use Rattle.can_findings.specs.Remedies.{explained_text}
use Rattle.can_findings.proofs.explaining.write_all.Goals as goal

pub returns-in_err-write_one : goal.returns-in_err-write_one
returns-in_err-write_one g c =
    MatchResult-from_err c.from_residual.result _ _ c.from_residual.ensures.0
    (λ _. Lost-item g.W.Sink.written explained_text c.args.found.now
    c.loop-finding.finding-index _ _ _ _ _ c.loop-finding-test.true c.finding-item.is c.loop-finding.invariant
    c.in_err-write_one.ensures)

pub loop-finding-preserved : goal.loop-finding-preserved
loop-finding-preserved g c =
    Took-item g.W.Sink.written explained_text c.args.found.now
    c.loop-finding.finding-index _ _ _ _ _ c.loop-finding-test.true c.finding-item.is c.loop-finding.invariant
    c.in_ok-write_one.ensures
