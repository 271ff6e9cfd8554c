use Rattle.candesk_runs.proofs.FromText.{written}
use Rattle.candesk_runs.proofs.decoding.run_with.Goals as goal

pub returns-in-Ok : goal.returns-in-Ok
returns-in-Ok g c = written _ _ c.in-Ok.ensures _ _ _ _ _ c.stream.result c.stream.ensures
