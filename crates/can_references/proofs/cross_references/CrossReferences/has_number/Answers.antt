use Rattle.std.proofs.Common.{◌==◌, ap, ◌∙◌}
use Rattle.dbc_records.specs.Databases.{Database}
use Rattle.can_references.specs.Finding.{occurs_in}
use Rattle.can_references.specs.CrossReferences.{numbers_of}
use Rattle.can_references.proofs.Alike.{occurs_alike}
use Rattle.can_references.proofs.cross_references.CrossReferences.has_number.Goals as goal

pub returns : goal.returns
returns g c =
    c.has.ensures ∙ occurs_alike (λ other. c.args.number == other) _ _ c.self.invariant.all_numbers
    ∙ ap (λ (d : Database). occurs_in (λ a b. a == b) c.args.number (numbers_of d)) c.self.view_is
