use Rattle.std.proofs.Common.{◌-◌, arith, length, take, drop, refl}
use Rattle.std.proofs.lemmas.Bool.Decides.{nat_tests}
use Rattle.dbc_values.proofs.PlainDecimals.{Plain, plain_all, plain_point}
use Rattle.dbc_values.proofs.number.plain_decimal.Goals as goal

whole : (c : goal.Then-not-is_empty) → Plain c.args.number.now c.in_ok-whole.whole 0
whole c = plain_all _ _ _ c.in_ok-whole.ensures c.in-empty.len_below (grind (arith, nat_tests))

pub returns-in-empty-clause-form : goal.returns-in-empty-clause-form
returns-in-empty-clause-form c = (whole c).form

pub returns-in-empty-clause-digits : goal.returns-in-empty-clause-digits
returns-in-empty-clause-digits c = (whole c).digits

pub returns-in-empty-clause-power : goal.returns-in-empty-clause-power
returns-in-empty-clause-power c = (whole c).power

pointed : (c : goal.Then-is_empty)
    → Plain c.args.number.now c.in_ok-value-in-len1-up.value
    (length (take (length c.in_ok-whole.rest.now - 1) (drop 1 c.in_ok-whole.rest.now)))
pointed c =
    plain_point _ c.in_ok-whole.rest.now c.in_ok-value-in-len1-up.rest.now _ _ _ c.in_ok-whole.ensures c.in-len1-up.len_at_least
    c.if-first-eq46.true refl c.in_ok-value-in-len1-up.ensures (grind (arith, nat_tests)) c.if-number-gt1.true

pub returns-then-is_empty-clause-form : goal.returns-then-is_empty-clause-form
returns-then-is_empty-clause-form c = (pointed c).form

pub returns-then-is_empty-clause-digits : goal.returns-then-is_empty-clause-digits
returns-then-is_empty-clause-digits c = (pointed c).digits

pub returns-then-is_empty-clause-power : goal.returns-then-is_empty-clause-power
returns-then-is_empty-clause-power c = (pointed c).power
