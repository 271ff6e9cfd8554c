use Rattle.std.proofs.Common.{take, sym, subst, arith}
use Rattle.std.proofs.lemmas.List.{take_all}
use Rattle.std.proofs.lemmas.List.Elements.{All-more, All-weaker, All-same}
use Rattle.dbc_records.specs.Records.{Entry}
use Rattle.can_references.specs.inner.Spans.{IsWithin}
use Rattle.can_references.proofs.spans.entries_span.Goals as goal

pub loop-entry-preserved : goal.loop-entry-preserved
loop-entry-preserved c =
    All-more (IsWithin c.widened-span.result) c.args.entries.now c.loop-entry.entry-index c.entry-item.result c.loop-entry-test.true
    (All-weaker (IsWithin c.loop-entry.span) (IsWithin c.widened-span.result)
    (λ (entry : Entry) holds. c.widened-span.ensures.more entry.number holds) (take c.loop-entry.entry-index c.args.entries.now)
    c.loop-entry.invariant)
    (subst (IsWithin c.widened-span.result) c.entry-item.is c.widened-span.ensures.holds)

pub returns : goal.returns
returns c = All-same (IsWithin c.loop-entry.span) c.args.entries.now (take c.loop-entry.entry-index c.args.entries.now)
    (sym (take_all c.loop-entry.entry-index c.args.entries.now (omega (arith, c.loop-entry-test.false)))) c.loop-entry.invariant
