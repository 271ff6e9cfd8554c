use Rattle.std.proofs.Common.{nat_eq, get_or, refl, arith}
use Rattle.dbc_values.specs.declared.class.TheConstants.{CLASSES}
use Rattle.dbc_values.specs.Lexical.{is_mark}
use Rattle.dbc_values.proofs.Classes.{agree_below, agree_at}
use Rattle.dbc_values.proofs.class.is_mark.Goals as goal

pub returns : goal.returns
unfolding agree_below
returns c = agree_at (λ k. nat_eq (get_or CLASSES k 0) 109) is_mark 256 refl c.args.b (omega arith)
