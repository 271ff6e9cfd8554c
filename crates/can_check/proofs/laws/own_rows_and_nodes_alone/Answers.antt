use Rattle.can_check.proofs.OwnFaults.{own-same}
use Rattle.can_check.proofs.laws.own_rows_and_nodes_alone.Goals as goal

pub returns : goal.returns
returns c = own-same
