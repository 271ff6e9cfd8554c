use Rattle.std.proofs.Common.{◌≡◌, ◌+◌, ◌-◌, Some, None, sym, subst, ◌∙◌, arith}
use Rattle.std.proofs.lemmas.List.{take_rest, get_or-drop, length-drop}
use Rattle.memchr.specs.Find.{IsFirstByte, is_byte}
use Rattle.dbc_values.specs.Lexical.{quote}
use Rattle.dbc_tokens.proofs.Searches.{not_escaped, escaped, text_ends, text_goes_on, text_never_ends, first_byte}
use Rattle.dbc_tokens.proofs.lengths.text_len.Goals as goal

pub returns-then-closes-clause-value : goal.returns-then-closes-clause-value
returns-then-closes-clause-value c =
    let s = c.args.bytes.now in
    let at = c.loop-n.at in
    let n = c.in-Some.n in
    let first : IsFirstByte (is_byte quote) _ (Some n) = subst (λ t. IsFirstByte (is_byte quote) t (Some n)) (take_rest s at)
    c.in-Some.ensures in
    text_ends s at n _ first c.loop-n.invariant.rest (not_escaped s at n (sym c.closes.ensures ∙ c.if-closes.true))

pub loop-n-preserved : goal.loop-n-preserved
loop-n-preserved c =
    let s = c.args.bytes.now in
    let at = c.loop-n.at in
    let n = c.in-Some.n in
    let first : IsFirstByte (is_byte quote) _ (Some n) = subst (λ t. IsFirstByte (is_byte quote) t (Some n)) (take_rest s at)
    c.in-Some.ensures in
    let f = first_byte quote _ n first in
    let index : at + n + 1 - 1 ≡ at + n = omega arith in
    record {
      in_range = omega (arith, f.0, length-drop at s);
      before = λ _. rw (index, ← get_or-drop at s n 0) f.2;
      rest = text_goes_on s at n _ first c.loop-n.invariant.rest (escaped s at n (sym c.closes.ensures ∙ c.if-closes.false)
          c.loop-n.invariant.before);
    }

pub returns-clause-value : goal.returns-clause-value
returns-clause-value c =
    let s = c.args.bytes.now in
    let at = c.loop-n.at in
    text_never_ends s at _ (subst (λ t. IsFirstByte (is_byte quote) t None) (take_rest s at) c.in_default.ensures)
    c.loop-n.invariant.rest
