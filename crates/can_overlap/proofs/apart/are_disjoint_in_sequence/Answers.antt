use Rattle.std.proofs.Common.{◌∙◌, sym}
use Rattle.can_overlap.proofs.Following.{none_overlap}
use Rattle.can_overlap.proofs.apart.are_disjoint_in_sequence.Goals as goal

pub returns-then-fields-le-MAX_COMPARED-clause-none : goal.returns-then-fields-le-MAX_COMPARED-clause-none
returns-then-fields-le-MAX_COMPARED-clause-none c =
    λ is. none_overlap c.args.fields.now (sym c.all_apart.ensures ∙ is)
