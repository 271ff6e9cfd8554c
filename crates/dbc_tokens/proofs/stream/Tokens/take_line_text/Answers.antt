use Rattle.std.proofs.Common.{sym, ◌∙◌}
use Rattle.dbc_tokens.proofs.PlainTokens.{cut_at}
use Rattle.dbc_tokens.proofs.LineTexts.{text_there}
use Rattle.dbc_tokens.proofs.stream.Tokens.take_line_text.Goals as goal

pub returns-clause-token : goal.returns-clause-token
returns-clause-token c =
    cut_at _ _ _ _ _ _ _ (c.in_ok-kind.kind, c.in_ok-kind.len)
    (text_there _ _ (sym c.in_ok-kind.was ∙ c.line_text_at.ensures.value)) c.leading_blanks-blanks.ensures.count
    c.leading_blanks-blanks.ensures.line_feeds c.split_at.ensures.back c.split_at-2.ensures.front c.split_at-2.ensures.back
