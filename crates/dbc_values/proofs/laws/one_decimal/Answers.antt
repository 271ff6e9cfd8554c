use Rattle.dbc_values.proofs.NormalForms.{decimal_from, decimal_to}
use Rattle.dbc_values.proofs.laws.one_decimal.Goals as goal

pub returns : goal.returns
returns c = λ negative m e d. (decimal_from negative m e d, decimal_to negative m e d)
