use Rattle.std.proofs.Common.{List, subst}
use Rattle.can_entries.specs.Rows.{rows_of}
use Rattle.can_entries.specs.declared.walk.Walk.{Walk}
use Rattle.can_check.specs.MessageFaults.{faults_by, message_faults}
use Rattle.can_check.specs.Reports.{Takes}
use Rattle.can_check.proofs.all.report_message.Goals as goal

pub returns : goal.returns
unfolding message_faults
returns g c =
    subst (λ (walks : List Walk). Takes g.T.Report.Took g.T.Report.Stopped c.args.to.now c.report_by_walks.new.to
    c.report_by_walks.result (faults_by c.args.known.now (rows_of c.args.message.now.head.number c.args.known.now)
    c.args.message.now walks)) c.in_ok-walks.ensures c.report_by_walks.ensures
