use Rattle.std.proofs.Common.{ap, ◌∙◌, bytes_eq}
use Rattle.std.specs.List.{list_any}
use Rattle.can_references.proofs.HashedKeys.{any_alike, names_alike}
use Rattle.can_references.proofs.names.Names.has.Goals as goal

pub returns : goal.returns
returns c =
    c.has.ensures
    ∙ any_alike _ _ (bytes_eq c.args.name.now) (λ hashed. hashed.key.now)
    (λ x is. names_alike _ _ _ x.key.now x.hash c.hashed.ensures.hash c.hashed.ensures.key is) c.self.inside.keys c.self.invariant
    ∙ ap (list_any (bytes_eq c.args.name.now)) c.self.view_is
