use Rattle.std.proofs.Common.{sym, ◌∙◌}
use Rattle.std.proofs.lemmas.Bool.{cond-true, cond-false}
use Rattle.dbc_tokens.proofs.Longest.{token_there}
use Rattle.dbc_tokens.proofs.CutStep.{cut_token, cut_none, cut_nil}
use Rattle.dbc_tokens.proofs.stream.Tokens.take_next.Goals as goal

pub token_line_feeds-requires : goal.token_line_feeds-requires
token_line_feeds-requires c = rw c.split_at-in-Some.ensures.front (token_there _ (c.in-Some.kind, c.in-Some.len) (sym c.in-Some.is
    ∙ c.token_at.ensures.value))

pub returns-in-Some-clause-next : goal.returns-in-Some-clause-next
returns-in-Some-clause-next c =
    cut_token _ _ _ _ _ _ _ (c.in-Some.kind, c.in-Some.len) _ _ c.gap_len.ensures.value c.split_at.ensures.front
    c.split_at.ensures.back c.gap_line_feeds.ensures.value
    (sym c.in-Some.is ∙ c.token_at.ensures.value) c.split_at-in-Some.ensures.front c.split_at-in-Some.ensures.back
    c.token_line_feeds.ensures.value

pub returns-then-is_empty-clause-next : goal.returns-then-is_empty-clause-next
returns-then-is_empty-clause-next c =
    cut_none c.args.self.now.line c.args.self.now.rest.now _ _ _ _ c.gap_len.ensures.value c.split_at.ensures.front
    c.split_at.ensures.back c.gap_line_feeds.ensures.value (sym c.in-None.is ∙ c.token_at.ensures.value)
    ∙ cond-true _ _ _ (sym c.is_empty.ensures ∙ c.if-is_empty.true)

pub returns-then-is_empty-clause-last : goal.returns-then-is_empty-clause-last
returns-then-is_empty-clause-last c = cut_nil _

pub returns-else-is_empty-clause-next : goal.returns-else-is_empty-clause-next
returns-else-is_empty-clause-next c =
    cut_none c.args.self.now.line c.args.self.now.rest.now _ _ _ _ c.gap_len.ensures.value c.split_at.ensures.front
    c.split_at.ensures.back c.gap_line_feeds.ensures.value (sym c.in-None.is ∙ c.token_at.ensures.value)
    ∙ cond-false _ _ _ (sym c.is_empty.ensures ∙ c.if-is_empty.false)

pub returns-else-is_empty-clause-last : goal.returns-else-is_empty-clause-last
returns-else-is_empty-clause-last c = cut_nil _
