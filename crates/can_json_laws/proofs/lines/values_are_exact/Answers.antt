use Rattle.can_json_laws.proofs.Exact.{values_are_exact}
use Rattle.can_json_laws.proofs.lines.values_are_exact.Goals as goal

pub returns : goal.returns
returns c = values_are_exact
