use Rattle.std.proofs.Common.{◌*◌, ◌^◌, ◌≤◌, arith}
use Rattle.std.proofs.lemmas.Bool.Decides.{nat_tests}
use Rattle.dbc_values.proofs.Powers.{tens_at_least, tens_below}
use Rattle.dbc_values.proofs.number.with_zeros.Goals as goal

pub returns-then-zeros-gt38 : goal.returns-then-zeros-gt38
returns-then-zeros-gt38 c =
    let long : 10 ^ 38 ≤ c.args.number * 10 ^ c.args.zeros = tens_at_least c.args.number 38 c.args.zeros (omega arith)
    (omega arith) in
    grind (arith, nat_tests)

pub pow-requires : goal.pow-requires
pow-requires c = tens_below c.args.zeros (omega arith)
