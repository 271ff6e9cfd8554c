use Rattle.std.proofs.Common.{refl}
use Rattle.candesk_runs.proofs.FromText.{printed}
use Rattle.candesk_runs.proofs.printing.print_run.Goals as goal

pub returns-in-Ok : goal.returns-in-Ok
returns-in-Ok g c = printed _ _ c.in-Ok.ensures _ _ c.print_all.result c.print_all.ensures

pub returns-in-Err : goal.returns-in-Err
returns-in-Err g c = (refl, c.in-Err.ensures)
