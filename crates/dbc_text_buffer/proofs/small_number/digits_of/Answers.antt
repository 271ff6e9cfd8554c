use Rattle.std.proofs.Common.{arith}
use Rattle.dbc_text_buffer.proofs.SmallTables.{IsSmall, small_read}
use Rattle.dbc_text_buffer.proofs.small_number.digits_of.Goals as goal

pub overflow_sub-result : goal.overflow_sub-result
overflow_sub-result c = (small_read c.args.number c.in-Some.digits.now c.requires c.in-Some.ensures.cases.same).least

pub returns-clause-count : goal.returns-clause-count
returns-clause-count c =
    let small : IsSmall c.args.number c.in-Some.digits.now =
    small_read c.args.number c.in-Some.digits.now c.requires c.in-Some.ensures.cases.same in
    omega (arith, small.most)

pub returns-clause-digits : goal.returns-clause-digits
returns-clause-digits c = (small_read c.args.number c.in-Some.digits.now c.requires c.in-Some.ensures.cases.same).digits
