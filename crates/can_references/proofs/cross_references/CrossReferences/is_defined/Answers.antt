use Rattle.std.proofs.Common.{ap, ◌∙◌, bytes_eq}
use Rattle.dbc_records.specs.Databases.{Database}
use Rattle.can_references.specs.Finding.{occurs_in}
use Rattle.can_references.specs.CrossReferences.{defined_in}
use Rattle.can_references.proofs.Alike.{occurs_alike}
use Rattle.can_references.proofs.cross_references.CrossReferences.is_defined.Goals as goal

pub returns : goal.returns
returns g c =
    c.has.ensures ∙ occurs_alike (bytes_eq c.args.name.now) _ _ c.self.invariant.all_defined
    ∙ ap (λ (d : Database). occurs_in bytes_eq c.args.name.now (defined_in d)) c.self.view_is
