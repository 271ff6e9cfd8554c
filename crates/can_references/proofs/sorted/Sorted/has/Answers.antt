use Rattle.std.proofs.Common.{◌∙◌}
use Rattle.can_references.specs.inner.KeySets.{rank}
use Rattle.can_references.proofs.Ranks.{same_rank, has_none, has_first}
use Rattle.can_references.proofs.sorted.Sorted.has.Goals as goal

pub returns-in-empty : goal.returns-in-empty
returns-in-empty g c =
    has_none (g.K.PartialEq.eq c.args.key) (rank g.K.Ord.cmp c.args.key)
    (same_rank g.met.K.Ord.total g.met.K.Ord.matches_eq c.args.key)
    c.args.self.now c.from.result.now c.in-empty.len_below c.from.ensures.all

pub returns-in-len1-up : goal.returns-in-len1-up
returns-in-len1-up g c =
    c.eq.ensures ∙ g.met.K.PartialEq.laws.symm _ _ ∙
    has_first (g.K.PartialEq.eq c.args.key) (rank g.K.Ord.cmp c.args.key)
    (same_rank g.met.K.Ord.total g.met.K.Ord.matches_eq c.args.key)
    c.args.self.now c.from.result.now c.first-item.result c.in-len1-up.len_at_least c.first-item.is c.from.ensures.rises
    c.from.ensures.all
