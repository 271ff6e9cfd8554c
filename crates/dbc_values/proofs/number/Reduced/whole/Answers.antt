use Rattle.std.proofs.Common.{rules, pos, ◌<ℤ◌, ◌≤ℤ◌, Some, None, arith}
use mir.Syntax.{w128}
use mir.Val.{SFits}
use Rattle.std.proofs.lemmas.Int.{ints, to_z-of_z}
use Rattle.dbc_values.specs.Numbers.{IsReduced}
use Rattle.dbc_values.proofs.Digits.{kept_is, dropped_is}
use Rattle.dbc_values.proofs.WholeNumbers.{fraction, too_long, whole_zero, with_zeros_at}
use Rattle.dbc_values.proofs.number.Reduced.whole.Goals as goal

pub returns-then-self-lt0 : goal.returns-then-self-lt0
returns-then-self-lt0 c m e r =
    let long : IsReduced m e None c.args.self.exponent = rw c.in_default.is at r in
    let less : c.args.self.exponent <ℤ pos 0 = grind (arith, ints) in
    fraction m e c.args.self.exponent None long (λ zero. absurd (omega (arith, dropped_is long.front.front long.front.kept, zero)))
    less

pub returns-else-self-lt0 : goal.returns-else-self-lt0
returns-else-self-lt0 c m e r =
    let more : pos 0 ≤ℤ c.args.self.exponent = grind (arith, ints) in
    too_long m e c.args.self.exponent (rw c.in_default.is at r) more

pub returns-then-digits-eq0 : goal.returns-then-digits-eq0
returns-then-digits-eq0 c m e r =
    let short : IsReduced m e (Some c.in-Some.digits) c.args.self.exponent = rw c.in-Some.is at r in
    whole_zero m e c.args.self.exponent (rw c.if-digits-eq0.true at short)

pub returns-then-self-lt0-2 : goal.returns-then-self-lt0-2
returns-then-self-lt0-2 c m e r =
    let short : IsReduced m e (Some c.in-Some.digits) c.args.self.exponent = rw c.in-Some.is at r in
    let less : c.args.self.exponent <ℤ pos 0 = grind (arith, ints) in
    fraction m e c.args.self.exponent (Some c.in-Some.digits) short
    (λ zero. absurd (omega (arith, kept_is c.in-Some.digits short.front.front short.front.kept, zero, c.if-digits-eq0.false))) less

pub returns : goal.returns
returns c m e r =
    let short : IsReduced m e (Some c.in-Some.digits) c.args.self.exponent = rw c.in-Some.is at r in
    let more : pos 0 ≤ℤ c.args.self.exponent = grind (arith, ints) in
    let fits : SFits w128 c.args.self.exponent = search rules in
    rw c.whole_with_zeros.ensures (with_zeros_at m c.in-Some.digits e c.args.self.exponent _ (to_z-of_z w128 c.args.self.exponent
    fits) short c.if-digits-eq0.false more)
