use Rattle.std.proofs.Common.{List, ◌++◌, ap, sym, ◌∙◌, append-nil}
use Rattle.std.specs.Prelude.{ℤ}
use Rattle.can_references.specs.inner.Spans.{has_all}
use Rattle.can_references.proofs.InSpans.{none_outside}
use Rattle.can_references.proofs.spans.Spans.+push_out_of_range.Goals as goal

pub returns-then-has_all : goal.returns-then-has_all
returns-then-has_all t c =
    sym (ap (λ (more : List ℤ). c.args.found.now.items ++ more)
    (none_outside c.args.signal.now c.args.self.now c.args.entries.now c.requires
    (ap (has_all c.args.signal.now) (sym c.span.ensures) ∙ sym c.has_all.ensures ∙ c.if-has_all.true))
    ∙ append-nil c.args.found.now.items)
