use Rattle.std.proofs.Common.{◌≡◌, get_or, ap, subst, ◌∙◌}
use Rattle.byte_devices.specs.Device.{Broke}
use Rattle.can_json_findings.specs.Findings.{finding_line}
use Rattle.candesk_runs.proofs.Diagram.{Broke-item}
use Rattle.candesk_runs.proofs.finding_objects.write_lines.Goals as goal

pub returns-in-Err : goal.returns-in-Err
returns-in-Err g c =
    let line : c.as_slice.result.now ≡ finding_line c.args.text.now (get_or c.args.found.now c.loop-finding.finding-index
    c.finding-item.result) =
    c.as_slice.ensures.value ∙ c.in-Ok.ensures ∙ ap (finding_line c.args.text.now) c.finding-item.is in
    Broke-item (finding_line c.args.text.now) c.args.found.now c.loop-finding.finding-index c.finding-item.result
    c.loop-finding-test.true _ _ _ c.loop-finding.invariant
    (subst (Broke (g.W.Sink.written c.loop-finding.sink) (g.W.Sink.written c.put_all.new.sink)) line c.in-Err.ensures)
