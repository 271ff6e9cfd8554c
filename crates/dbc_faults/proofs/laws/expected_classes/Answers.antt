use Rattle.dbc_faults.proofs.Expected.{may_stand}
use Rattle.dbc_faults.proofs.laws.expected_classes.Goals as goal

pub returns : goal.returns
returns c = may_stand
