use Rattle.std.proofs.Common.{Some, None, subst}
use Rattle.std.proofs.lemmas.List.{take_rest}
use Rattle.memchr.specs.Find.{IsFirstByte, is_byte}
use Rattle.dbc_values.specs.Lexical.{line_feed}
use Rattle.dbc_tokens.proofs.Searches.{gap_after_comment, gap_is_all}
use Rattle.dbc_tokens.proofs.lengths.gap_len.Goals as goal

pub returns-in-None-clause-value : goal.returns-in-None-clause-value
returns-in-None-clause-value c =
    let s = c.args.bytes.now in
    let at = c.loop-at.at in
    gap_is_all s at _ c.if-at-bytes.true c.if-bytes-at-eq47.true c.if-bytes-at-eq47-2.true
    (subst (λ t. IsFirstByte (is_byte line_feed) t None) (take_rest s at) c.in-None.ensures) c.loop-at.invariant.rest

pub loop-at-preserved : goal.loop-at-preserved
loop-at-preserved c =
    let s = c.args.bytes.now in
    let at = c.loop-at.at in
    let e = gap_after_comment s at c.in-Some.n _ c.if-at-bytes.true c.if-bytes-at-eq47.true c.if-bytes-at-eq47-2.true
    (subst (λ t. IsFirstByte (is_byte line_feed) t (Some c.in-Some.n)) (take_rest s at) c.in-Some.ensures)
    c.loop-at.invariant.rest in
    record { in_range = e.0; rest = e.2 }
