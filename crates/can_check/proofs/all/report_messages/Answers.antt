use Rattle.std.proofs.Common.{rules, sym, subst}
use Rattle.can_check.specs.MessageFaults.{message_faults}
use Rattle.can_check.specs.Reports.{Takes}
use Rattle.can_check.proofs.Parts.{of_parts}
use Rattle.can_check.proofs.all.report_messages.Goals as goal

pub returns-in_err-occupancy : goal.returns-in_err-occupancy
returns-in_err-occupancy g c =
    subst (Takes g.T.Report.Took g.T.Report.Stopped c.args.to.now c.report_message.new.to c.from_residual.result)
    (sym (of_parts (message_faults c.args.known.now) c.args.messages.now c.loop-message.message-index c.message-item.result
    c.loop-message-test.true c.message-item.is)) (search rules)
