use Rattle.std.proofs.Common.{length}
use Rattle.dbc_values.specs.Numbers.{IsDigitsThen}
use Rattle.dbc_values.proofs.number.leading_digits.Given as goal

abbrev pub invariant-digits : goal.invariant-digits
invariant-digits l = IsDigitsThen l.start l.bytes l.value l.rest

abbrev pub decreases-digits : goal.decreases-digits
decreases-digits l = length l.rest
