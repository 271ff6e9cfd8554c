use Rattle.std.proofs.Common.{List, ℕ, ap, ◌∙◌, bytes_eq}
use Rattle.std.specs.Prelude.{nat_le, count_by}
use Rattle.dbc_records.specs.Databases.{Database}
use Rattle.can_references.specs.Finding.{is_shared}
use Rattle.can_references.specs.CrossReferences.{names_of}
use Rattle.can_references.proofs.Alike.{shared_alike}
use Rattle.can_references.proofs.cross_references.CrossReferences.is_shared_name.Goals as goal

pub returns : goal.returns
returns g c =
    c.is_shared.ensures
    ∙ ap (λ (name : List ℕ). nat_le 2 (count_by (bytes_eq name) c.self.inside.names)) c.as_bytes.ensures.value
    ∙ shared_alike (bytes_eq c.args.name.now) _ _ c.self.invariant.all_names
    ∙ ap (λ (d : Database). is_shared bytes_eq c.args.name.now (names_of d)) c.self.view_is
