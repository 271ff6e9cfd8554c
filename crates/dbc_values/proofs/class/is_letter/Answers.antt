use Rattle.std.proofs.Common.{nat_eq, get_or, refl, arith}
use Rattle.dbc_values.specs.declared.class.TheConstants.{CLASSES}
use Rattle.dbc_values.specs.Lexical.{is_letter}
use Rattle.dbc_values.proofs.Classes.{agree_below, agree_at}
use Rattle.dbc_values.proofs.class.is_letter.Goals as goal

pub returns : goal.returns
unfolding agree_below
returns c = agree_at (λ k. nat_eq (get_or CLASSES k 0) 97) is_letter 256 refl c.args.b (omega arith)
