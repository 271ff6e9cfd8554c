use Rattle.dbc_values.proofs.NormalForms.{decimal_is_made}
use Rattle.dbc_values.proofs.decimal.Decimal.of_number.Goals as goal

pub returns-clause-value : goal.returns-clause-value
returns-clause-value c = decimal_is_made c.args.negative c.args.number.now c.spelled.result c.spelled.ensures
