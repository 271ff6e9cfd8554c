use Rattle.std.proofs.Common.{List, ◌++◌, ap, sym, ◌∙◌, append-nil}
use Rattle.std.specs.Prelude.{ℤ}
use Rattle.can_references.specs.RawRanges.{has_both_ends}
use Rattle.can_references.proofs.BothEnds.{none_out}
use Rattle.can_references.proofs.values.push_out_of_range.Goals as goal

pub returns-in-Some : goal.returns-in-Some
returns-in-Some c =
    sym (ap (λ (more : List ℤ). c.args.found.now.items ++ more)
    (none_out c.in-Some.field-0 c.args.signal.now c.args.entries.now c.in-Some.ensures.in_order
    (ap (has_both_ends c.args.signal.now) (sym c.as_slice.ensures) ∙ sym c.has_both_ends.ensures ∙ c.if-has_both_ends.true))
    ∙ append-nil c.args.found.now.items)
