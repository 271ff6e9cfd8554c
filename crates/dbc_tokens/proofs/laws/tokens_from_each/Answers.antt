use Rattle.std.proofs.Common.{[], refl}
use Rattle.dbc_tokens.proofs.FromEach.{from_each}
use Rattle.dbc_tokens.proofs.laws.tokens_from_each.Goals as goal

pub returns : goal.returns
returns c = λ line text cut has. from_each text [] line text cut refl has
