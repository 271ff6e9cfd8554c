use Rattle.std.proofs.Common.{arith}
use Rattle.dbc_values.proofs.Digits.{zero_after, digit_after_some, digit_after_none}
use Rattle.dbc_values.proofs.number.Digits.then.Goals as goal

pub returns-then-digit-eq0-clause-value : goal.returns-then-digit-eq0-clause-value
returns-then-digit-eq0-clause-value c m h = rw c.if-digit-eq0.true (zero_after m c.args.self.front c.args.self.zeros h)

pub returns-in-Some-clause-value : goal.returns-in-Some-clause-value
returns-in-Some-clause-value c m h =
    digit_after_some m c.in-Some.front c.args.self.zeros c.args.digit (rw c.in-Some.is at h) (omega arith) c.requires.digit
    c.appended-front.result c.appended-front.ensures

pub returns-in-None-clause-value : goal.returns-in-None-clause-value
returns-in-None-clause-value c m h =
    digit_after_none m c.args.self.zeros c.args.digit (rw c.in-None.is at h) (omega arith) c.requires.digit
