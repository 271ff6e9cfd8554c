use Rattle.std.proofs.Common.{rules, ℕ, List, sym, subst}
use Rattle.std.specs.List.{flat_map}
use Rattle.can_diagnostics.specs.declared.diagnostic.Diagnostic.{Diagnostic}
use Rattle.can_overlap.specs.Overlaps.{pairs_from}
use Rattle.can_check.specs.MessageFaults.{pair_at}
use Rattle.can_check.specs.Reports.{Takes}
use Rattle.can_check.proofs.Parts.{of_next, of_all}
use Rattle.can_check.proofs.overlap_rules.report_marked.Goals as goal

pub returns-in_err-report_pairs : goal.returns-in_err-report_pairs
returns-in_err-report_pairs g c =
    let found : ℕ → List Diagnostic = λ first. flat_map (pair_at c.args.message.now)
    (pairs_from c.args.marked.now.fields c.args.marked.now.walks first) in
    subst (Takes g.T.Report.Took g.T.Report.Stopped c.args.to.now c.report_pairs.new.to c.from_residual.result)
    (sym (of_all found c.loop-first.first c.args.count c.loop-first-test.true)) (search rules)

pub loop-first-preserved : goal.loop-first-preserved
loop-first-preserved g c =
    let found : ℕ → List Diagnostic = λ first. flat_map (pair_at c.args.message.now)
    (pairs_from c.args.marked.now.fields c.args.marked.now.walks first) in
    subst (g.T.Report.Took c.args.to.now c.report_pairs.new.to) (sym (of_next found c.loop-first.first))
    (g.met.T.Report.took_then _ _ _ _ _ c.loop-first.invariant c.in_ok-report_pairs.ensures)
