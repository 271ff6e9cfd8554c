use Rattle.can_json_laws.proofs.Planned as laws
use Rattle.can_json_laws.proofs.databases.signals_are_as_planned.Goals as goal

pub returns : goal.returns
returns c = laws.signals_are_as_planned
