use Rattle.can_check.proofs.OwnFaults.{message_in_order, all_in_order}
use Rattle.can_check.proofs.laws.faults_in_order.Goals as goal

pub returns-clause-message : goal.returns-clause-message
returns-clause-message c = message_in_order

pub returns-clause-all : goal.returns-clause-all
returns-clause-all c = all_in_order
