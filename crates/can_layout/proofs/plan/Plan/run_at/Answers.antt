use Rattle.std.proofs.Common.{◌≡◌, List, slice_get, subst, sym, ap, ◌∙◌}
use Rattle.can_layout.specs.Plans.{Plan}
use Rattle.can_layout.specs.Presence.{AreRuns}
use Rattle.can_layout.specs.declared.runs.Run.{Run}
use Rattle.can_layout.proofs.plan.Plan.run_at.Goals as goal

pub returns-clause-run : goal.returns-clause-run
returns-clause-run c = λ run is.
    let own : c.self.inside.rows ≡ c.args.self.now.rows = ap (λ (plan : Plan). plan.rows) c.self.view_is in
    let are : AreRuns c.args.self.now.rows c.self.inside.runs.items = subst (λ rows. AreRuns rows c.self.inside.runs.items) own
    c.self.invariant.3 in
    are c.args.signal run (ap (λ (runs : List Run). slice_get runs c.args.signal) (sym c.as_slice.ensures.value)
    ∙ sym c.run_in.ensures ∙ is)
