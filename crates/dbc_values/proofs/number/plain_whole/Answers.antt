use Rattle.std.proofs.Common.{arith}
use Rattle.std.proofs.lemmas.Bool.Decides.{nat_tests}
use Rattle.dbc_values.proofs.PlainDecimals.{Plain, plain_all, plain_read}
use Rattle.dbc_values.proofs.number.plain_whole.Goals as goal

pub returns-clause-spells : goal.returns-clause-spells
returns-clause-spells c =
    plain_read _ c.in_ok-value.rest.now _ c.in_ok-value.ensures (grind (arith, nat_tests)) (grind (arith, nat_tests))

plain : (c : goal.Else-not-is_empty) → Plain c.args.number.now c.in_ok-value.value 0
plain c = plain_all _ c.in_ok-value.rest.now _ c.in_ok-value.ensures (grind (arith, nat_tests)) (grind (arith, nat_tests))

pub returns-clause-digits : goal.returns-clause-digits
returns-clause-digits c = (plain c).digits

pub returns-clause-power : goal.returns-clause-power
returns-clause-power c = (plain c).power
