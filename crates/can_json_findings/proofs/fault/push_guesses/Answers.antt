use Rattle.std.proofs.Common.{true}
use Rattle.can_json_findings.specs.Faults.{fault_line}
use Rattle.can_json_findings.proofs.Beginnings.{one_more_line}
use Rattle.can_json_findings.proofs.fault.push_guesses.Goals as goal

pub loop-details-preserved : goal.loop-details-preserved
loop-details-preserved c =
    one_more_line (λ details. fault_line c.args.size details true) c.args.guesses.now c.loop-details.details-index
    c.details-item.result c.args.lines.now.items c.loop-details.lines.items c.append.new.self.items c.in_ok-line.line.items
    c.loop-details-test.true c.in_ok-append.ensures.items c.in_ok-line.ensures c.details-item.is c.loop-details.invariant
