use Rattle.session_laws.proofs.Scripts.{lines_lead as led}
use Rattle.session_laws.proofs.laws.lines_lead.Goals as goal

pub returns : goal.returns
returns c = led
