-- The tokens of a text are in it in order.
use Rattle.std.proofs.Common.{ℕ, ◌+◌, List, ◌∙◌, arith}
use Rattle.dbc_tokens.specs.Tokens.{Cut, End, Fault, ◌▸◌, line_feeds, HasTokens}
use Rattle.dbc_tokens.specs.Places.{StandInOrder, tokens_of}

pub in_order : (line : ℕ) (text : List ℕ) (cut : Cut) → HasTokens line 0 text cut → StandInOrder line text (tokens_of cut)
in_order line text (End at) has = tt
in_order line text (Fault at) has = tt
in_order line text (t ▸ cut) (gap, rest, whole, is, at, left, longest, others) =
    (gap, rest, whole, at, left ∙ omega arith, in_order (t.line + line_feeds t.bytes) rest cut others)
