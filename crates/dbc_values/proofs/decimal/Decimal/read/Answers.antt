use Rattle.std.proofs.Common.{rules, ◌≡◌, true}
use Rattle.std.specs.Str.Parse.{starts_with_minus, without_leading_sign}
use Rattle.dbc_values.proofs.NormalForms.{decimal_is_made}
use Rattle.dbc_values.proofs.Signs.{following_minus}
use Rattle.dbc_values.proofs.decimal.Decimal.read.Goals as goal

pub returns-in-45-clause-spells : goal.returns-in-45-clause-spells
returns-in-45-clause-spells c =
    let minus : starts_with_minus c.args.bytes.now ≡ true = search rules in
    following_minus c.args.bytes.now c.of_number.result minus c.of_number.ensures.spells

pub returns-in-45-clause-value : goal.returns-in-45-clause-value
returns-in-45-clause-value c =
    let minus : starts_with_minus c.args.bytes.now ≡ true = search rules in
    decimal_is_made (starts_with_minus c.args.bytes.now) (without_leading_sign c.args.bytes.now) c.of_number.result
    (following_minus c.args.bytes.now c.of_number.result minus c.of_number.ensures.spells)
