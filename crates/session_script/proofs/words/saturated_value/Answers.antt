use Rattle.std.proofs.Common.{◌≡◌, ◌+◌, ◌-◌, ◌*◌, take, get_or, arith}
use Rattle.std.specs.Str.Parse.{digits_value}
use Rattle.dbc_values.proofs.DigitTexts.{value_more}
use Rattle.session_script.proofs.words.saturated_value.Goals as goal

pub loop-digit-preserved : goal.loop-digit-preserved
loop-digit-preserved c =
    let more : digits_value 10 (take (c.loop-digit.digit-index + 1) c.args.digits.now)
    ≡ digits_value 10 (take c.loop-digit.digit-index c.args.digits.now) *
    10 + (get_or c.args.digits.now c.loop-digit.digit-index 0 - 48) =
    value_more 0 c.args.digits.now c.loop-digit.digit-index (omega arith) c.requires in
    omega (arith, c.min-value.ensures, c.from.ensures, c.loop-digit.invariant)
