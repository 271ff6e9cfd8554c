use Rattle.std.proofs.Common.{List, ◌++◌, ap, sym, ◌∙◌, append-nil}
use Rattle.std.specs.Prelude.{ℤ}
use Rattle.can_references.proofs.InOrder.{none_repeated}
use Rattle.can_references.proofs.values.push_repeated.Goals as goal

pub returns-in-Some : goal.returns-in-Some
returns-in-Some c =
    sym (ap (λ (more : List ℤ). c.args.found.now.items ++ more)
    (none_repeated c.in-Some.field-0 c.args.entries.now c.in-Some.ensures.in_order)
    ∙ append-nil c.args.found.now.items)
