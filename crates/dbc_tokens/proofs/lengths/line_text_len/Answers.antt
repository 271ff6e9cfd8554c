use Rattle.std.proofs.Common.{sym, ◌∙◌}
use Rattle.std.proofs.lemmas.Bool.{cond-true, cond-false, and_from, eq-eqb, ne_eqb, and_left, and_right}
use Rattle.dbc_tokens.proofs.LineTexts.{line_len}
use Rattle.dbc_tokens.proofs.lengths.line_text_len.Goals as goal
use Rattle.dbc_tokens.proofs.lengths.line_text_len.Goals.{else-bytes-end-eq34-via-then-bytes-end-eq34+else-closes}
use Rattle.dbc_tokens.proofs.lengths.line_text_len.Goals.{else-bytes-end-eq34-via-else-bytes-end-eq34}

pub returns-then-closes-clause-value : goal.returns-then-closes-clause-value
returns-then-closes-clause-value c =
    let s = c.args.bytes.now in
    let n = c.in_ok-end.end in
    sym (line_len s n c.in_ok-end.ensures ∙ cond-true _ _ _ (and_from _ _ (eq-eqb _ _ c.if-bytes-end-eq34.true)
    (sym c.closes.ensures ∙ c.if-closes.true)))

pub returns-else-bytes-end-eq34-clause-value : goal.returns-else-bytes-end-eq34-clause-value
returns-else-bytes-end-eq34-clause-value c =
    let s = c.args.bytes.now in
    let n = c.in_ok-end.end in
    elim c.else-bytes-end-eq34.branch [
      | else-bytes-end-eq34-via-then-bytes-end-eq34+else-closes w ↦
          let open_still = sym w.closes.ensures ∙ w.if-closes.false in
          sym (line_len s n c.in_ok-end.ensures ∙ cond-false _ _ _ (and_right _ _ open_still))
      | else-bytes-end-eq34-via-else-bytes-end-eq34 w ↦
          sym (line_len s n c.in_ok-end.ensures ∙ cond-false _ _ _ (and_left _ _ (ne_eqb _ _ w.if-bytes-end-eq34.false)))
    ]
