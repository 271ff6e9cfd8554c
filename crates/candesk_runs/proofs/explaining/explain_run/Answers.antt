use Rattle.candesk_runs.proofs.FromText.{explained}
use Rattle.candesk_runs.proofs.explaining.explain_run.Goals as goal

pub returns-in-Ok : goal.returns-in-Ok
returns-in-Ok g c = explained _ _ _ c.in-Ok.ensures _ _ c.explain_database.result c.explain_database.ensures
