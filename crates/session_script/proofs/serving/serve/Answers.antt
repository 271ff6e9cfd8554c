use Rattle.std.proofs.Common.{[], refl}
use Rattle.session_script.proofs.serving.serve.Goals as goal

pub returns-in_default-clause-serves : goal.returns-in_default-clause-serves
returns-in_default-clause-serves g c = (refl, refl, refl)

pub returns-in_default-clause-leads : goal.returns-in_default-clause-leads
returns-in_default-clause-leads g c = record { lines = []; text = []; ran = (refl, refl) }
