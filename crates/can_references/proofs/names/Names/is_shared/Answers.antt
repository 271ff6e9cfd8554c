use Rattle.std.proofs.Common.{ap, ◌∙◌, bytes_eq}
use Rattle.std.specs.Prelude.{nat_le, count_by}
use Rattle.can_references.proofs.HashedKeys.{count_alike, names_alike}
use Rattle.can_references.proofs.names.Names.is_shared.Goals as goal

pub returns : goal.returns
returns c =
    c.is_shared.ensures
    ∙ ap (nat_le 2) (count_alike _ _ (bytes_eq c.args.name.now) (λ hashed. hashed.key.now)
    (λ x is. names_alike _ _ _ x.key.now x.hash c.hashed.ensures.hash c.hashed.ensures.key is) c.self.inside.keys c.self.invariant
    ∙ ap (count_by (bytes_eq c.args.name.now)) c.self.view_is)
