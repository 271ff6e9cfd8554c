use Rattle.std.proofs.Common.{◌||◌, Bool, ap, sym, ◌∙◌, bytes_eq}
use Rattle.dbc_records.specs.Databases.{Database}
use Rattle.can_references.specs.Finding.{occurs_in}
use Rattle.can_references.specs.CrossReferences.{no_node}
use Rattle.can_references.proofs.Alike.{occurs_alike}
use Rattle.can_references.proofs.cross_references.CrossReferences.is_known_node.Goals as goal

pub returns-then-has : goal.returns-then-has
returns-then-has g c =
    let has = c.has.ensures ∙ occurs_alike (bytes_eq c.args.name.now) _ _ c.self.invariant.all_nodes
    ∙ ap (λ (d : Database). occurs_in bytes_eq c.args.name.now d.nodes) c.self.view_is in
    c.if-has.true ∙ ap (λ (b : Bool). b || bytes_eq c.args.name.now no_node) (sym c.if-has.true ∙ has)

pub returns-else-has : goal.returns-else-has
returns-else-has g c =
    let has = c.has.ensures ∙ occurs_alike (bytes_eq c.args.name.now) _ _ c.self.invariant.all_nodes
    ∙ ap (λ (d : Database). occurs_in bytes_eq c.args.name.now d.nodes) c.self.view_is in
    c.same.ensures ∙ ap (λ (b : Bool). b || bytes_eq c.args.name.now no_node) (sym c.if-has.false ∙ has)
