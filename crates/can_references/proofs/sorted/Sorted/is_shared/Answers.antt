use Rattle.std.proofs.Common.{◌∙◌}
use Rattle.can_references.specs.inner.KeySets.{rank}
use Rattle.can_references.proofs.Ranks.{same_rank, has_second}
use Rattle.can_references.proofs.sorted.Sorted.is_shared.Goals as goal

pub returns-in-len2-up : goal.returns-in-len2-up
returns-in-len2-up g c =
    c.eq.ensures ∙ g.met.K.PartialEq.laws.symm _ _ ∙
    has_second (g.K.PartialEq.eq c.args.key) (rank g.K.Ord.cmp c.args.key)
    (same_rank g.met.K.Ord.total g.met.K.Ord.matches_eq c.args.key)
    c.args.self.now c.from.result.now c.second-item.result c.in-len2-up.len_at_least c.second-item.is c.from.ensures.rises
    c.from.ensures.all
