use Rattle.can_layout.proofs.Layouts.{rows_of_layouts}
use Rattle.can_layout.proofs.plan.plan_rows.Goals as goal

pub returns : goal.returns
returns g c = rows_of_layouts c.args.layout.now.rows c.args.mux_parents.now.value _ _ c.in_ok-made.made c.signals.result.now
    (rw c.rows.ensures at c.in_ok-made.ensures) c.signals.ensures
