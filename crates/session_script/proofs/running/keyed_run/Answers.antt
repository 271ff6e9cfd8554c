use Rattle.session_script.proofs.FromText.{of_session}
use Rattle.session_script.proofs.running.keyed_run.Goals as goal

pub returns-in-Ok : goal.returns-in-Ok
returns-in-Ok g c = of_session _ _ _ _ _ _ _ c.in-Ok.ensures.0 c.in-Ok.ensures.1 _ c.in-Ok.ensures.3 c.run_in.result
    c.run_in.ensures
