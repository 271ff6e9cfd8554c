use Rattle.dbc_tokens.proofs.Places.{in_order}
use Rattle.dbc_tokens.proofs.laws.tokens_in_order.Goals as goal

pub returns : goal.returns
returns c = in_order
