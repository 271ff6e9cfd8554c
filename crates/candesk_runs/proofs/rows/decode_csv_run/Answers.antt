use Rattle.candesk_runs.proofs.FromText.{csv_written}
use Rattle.candesk_runs.proofs.rows.decode_csv_run.Goals as goal

pub returns-in-Ok : goal.returns-in-Ok
returns-in-Ok g c = csv_written _ _ c.in-Ok.ensures _ _ _ _ _ c.csv_of.result c.csv_of.ensures
