use Rattle.std.proofs.Common.{rules, subst}
use Rattle.can_check.specs.Reports.{Takes}
use Rattle.can_check.proofs.Parts.{pairs_of_all}
use Rattle.can_check.proofs.overlap_rules.report_laid.Goals as goal

pub returns-in_err-report_marked : goal.returns-in_err-report_marked
returns-in_err-report_marked g c =
    subst (Takes g.T.Report.Took g.T.Report.Stopped c.args.to.now c.report_marked.new.to
    c.from_residual-in_err-report_marked.result) (pairs_of_all c.args.message.now c.args.fields.now c.args.walks.now
    c.in_ok-marked.marked c.saturating_sub-count.result c.pairs_by_signal.ensures c.saturating_sub-count.ensures
    c.in_ok-marked.ensures) (search rules)

pub returns : goal.returns
returns g c =
    subst (g.T.Report.Took c.args.to.now c.report_marked.new.to) (pairs_of_all c.args.message.now c.args.fields.now
    c.args.walks.now c.in_ok-marked.marked c.saturating_sub-count.result c.pairs_by_signal.ensures
    c.saturating_sub-count.ensures c.in_ok-marked.ensures) c.in_ok-report_marked.ensures
