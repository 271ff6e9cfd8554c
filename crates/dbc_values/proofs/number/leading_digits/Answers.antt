use Rattle.std.proofs.Common.{arith, rules, refl}
use Rattle.dbc_values.proofs.PlainDecimals.{one_read}
use Rattle.dbc_values.proofs.number.leading_digits.Goals as goal

pub digits-preserved : goal.digits-preserved
digits-preserved c =
    one_read _ _ _ _ _ c.digits.rest.now c.digits.invariant c.in-len1-up.len_at_least refl
    (search rules) (omega (arith, c.from.ensures)) (omega arith)
