use Rattle.std.proofs.Common.{refl, sym, arith}
use Rattle.std.proofs.lemmas.Bool.Decides.{nat_tests}
use Rattle.can_frames.proofs.Digits.{digit_read, digit_none}
use Rattle.can_frames.proofs.pairs.digit_value.Goals as goal

pub returns-then-value-lt16-clause-value : goal.returns-then-value-lt16-clause-value
returns-then-value-lt16-clause-value c = sym (digit_read c.args.digit _ _ (omega arith) refl (grind (arith, nat_tests)))

pub returns-else-value-lt16-clause-value : goal.returns-else-value-lt16-clause-value
returns-else-value-lt16-clause-value c = digit_none c.args.digit _ 0 (omega arith) refl (grind (arith, nat_tests))
