use Rattle.candesk_runs.proofs.FromText.{of_some, no_lines, faults_written, faults_broke}
use Rattle.candesk_runs.proofs.finding_objects.write_faults.Goals as goal

pub returns-in-Ok : goal.returns-in-Ok
returns-in-Ok g c =
    faults_written c.args.text.now c.in-Ok-Some.lines.fault _ _ _ _
    (of_some c.args.text.now c.in-Ok-Some.field-0 c.in-Ok-Some.lines c.in-Ok-Some.field-0-is c.in-Ok-Some.ensures)
    c.as_slice.ensures.value c.in-Ok.ensures

pub returns-in-Ok-Some : goal.returns-in-Ok-Some
returns-in-Ok-Some g c =
    faults_broke c.args.text.now c.in-Ok-Some.lines.fault _ _ _ _
    (of_some c.args.text.now c.in-Ok-Some.field-0 c.in-Ok-Some.lines c.in-Ok-Some.field-0-is c.in-Ok-Some.ensures)
    c.as_slice.ensures.value c.in-Err-put_all.ensures

pub unreachable-requires : goal.unreachable-requires
unreachable-requires g c =
    no_lines c.args.text.now c.args.fault c.in-Ok-None.field-0 c.in-Ok-None.field-0-is c.requires c.in-Ok-None.ensures
