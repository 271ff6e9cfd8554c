use Rattle.std.proofs.Common.{take, arith}
use Rattle.std.specs.Str.Parse.{digits_value_after}
use Rattle.dbc_values.proofs.DigitTexts.{value_more}
use Rattle.dbc_values.proofs.number.Digits.then_all.Goals as goal

pub loop-digit-preserved : goal.loop-digit-preserved
loop-digit-preserved c = record {
  few = omega arith;
  value = λ m h.
      rw (value_more m c.args.digits.now c.loop-digit.digit-index (omega arith) c.requires.digits)
      (c.then-all.ensures.value (digits_value_after 10 m (take c.loop-digit.digit-index c.args.digits.now))
      (c.loop-digit.invariant.value m h));
}
