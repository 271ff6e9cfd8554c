use Rattle.can_references.proofs.InOrder.{none_repeated}
use Rattle.can_references.proofs.values.may_repeat.Goals as goal

pub returns-in-Some-clause-none : goal.returns-in-Some-clause-none
returns-in-Some-clause-none c = λ none. none_repeated c.in-Some.field-0 c.args.entries.now c.in-Some.ensures.in_order
