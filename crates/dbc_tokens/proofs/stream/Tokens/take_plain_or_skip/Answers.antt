use Rattle.std.proofs.Common.{sym, ap, drop, ◌∙◌}
use Rattle.std.specs.List.{prefix_len}
use Rattle.dbc_values.specs.Lexical.{is_blank}
use Rattle.dbc_tokens.proofs.PlainTokens.{plain_there, cut_at, cut_after, none_ahead}
use Rattle.dbc_tokens.proofs.stream.Tokens.take_plain_or_skip.Goals as goal

pub returns-in-None-clause-token : goal.returns-in-None-clause-token
returns-in-None-clause-token c =
    cut_after _ _ _ _ _ c.leading_blanks-blanks.ensures.in_range.1 c.leading_blanks-blanks.ensures.count
    c.leading_blanks-blanks.ensures.line_feeds c.split_at.ensures.back

pub returns-in-None-clause-skipped : goal.returns-in-None-clause-skipped
returns-in-None-clause-skipped c = λ _.
    let text = c.args.self.now.rest.now in
    ap (prefix_len is_blank) (c.split_at.ensures.back ∙ ap (λ n. drop n text) c.leading_blanks-blanks.ensures.count)
    ∙ none_ahead text

pub returns-in-Some-clause-token : goal.returns-in-Some-clause-token
returns-in-Some-clause-token c =
    cut_at _ _ _ _ _ _ _ (c.in-Some.kind, c.in-Some.len)
    (plain_there _ _ (sym c.in-Some.is ∙ c.plain_token_at.ensures.value)) c.leading_blanks-blanks.ensures.count
    c.leading_blanks-blanks.ensures.line_feeds c.split_at.ensures.back c.split_at-in-Some.ensures.front
    c.split_at-in-Some.ensures.back
