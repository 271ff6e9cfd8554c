use Rattle.std.proofs.Common.{◌≡◌, ap, sym, ◌∙◌, nat_lt, arith}
use Rattle.can_bits.proofs.Outside.{last_outside, none_outside}
use Rattle.can_bits.proofs.field.Field.is_outside.Goals as goal

pub returns-then-self-gt0 : goal.returns-then-self-gt0
returns-then-self-gt0 c = rw c.passed.ensures (last_outside c.args.bytes c.args.self c.if-self-gt0.true)

pub returns-else-self-gt0 : goal.returns-else-self-gt0
returns-else-self-gt0 c =
    let none : c.args.self.length ≡ 0 = omega (arith, c.if-self-gt0.false) in
    ap (nat_lt 0) none ∙ sym (none_outside c.args.bytes c.args.self none)
