use Rattle.std.proofs.Common.{◌/◌, length, take, drop, sym, subst}
use Rattle.std.specs.Prelude.{ℤ}
use Rattle.std.proofs.lemmas.List.{take-append-drop}
use Rattle.can_references.specs.inner.Spans.{Holds, AreSpans}
use Rattle.can_references.specs.declared.spans.Span.{Span}
use Rattle.can_references.specs.declared.spans.Spans.{Spans}
use Rattle.can_references.proofs.InSpans.{of_halves}
use Rattle.can_references.proofs.spans.+spans_of.Goals as goal

pub returns : goal.returns
returns t c =
    let entries = c.args.entries.now in
    let half = length entries / 2 in
    let first = c.in_ok-first.first in
    let second = c.in_ok-second.second in
    let ahead = subst (AreSpans first) c.split_at.ensures.front c.in_ok-first.ensures in
    let after = subst (AreSpans second) c.split_at.ensures.back c.in_ok-second.ensures in
    let holds_first = subst (λ (span : Span). (number : ℤ) → Holds span number → Holds c.joined-span.result number) c.span.ensures
    c.joined-span.ensures.first in
    let holds_second = subst (λ (span : Span). (number : ℤ) → Holds span number → Holds c.joined-span.result number)
    c.span-2.ensures c.joined-span.ensures.second in (
      of_halves c.joined-span.result first second entries (take half entries) (drop half entries)
          (sym (take-append-drop half entries)) ahead after holds_first holds_second,
      subst (λ (spans : Spans). AreSpans spans (take half entries)) (sym c.in_ok-new.ensures.ok) ahead,
      subst (λ (spans : Spans). AreSpans spans (drop half entries)) (sym c.in_ok-new-2.ensures.ok) after,
    )
