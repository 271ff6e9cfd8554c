use Rattle.dbc_values.proofs.WholeNumbers.{whole_from, whole_to}
use Rattle.dbc_values.proofs.laws.one_whole.Goals as goal

pub returns : goal.returns
returns c = λ m e whole. (whole_from m e whole, whole_to m e whole)
