use Rattle.can_overlap.specs.Overlaps.{overlapping}
use Rattle.can_overlap.proofs.Sharing.{by_signal}
use Rattle.can_overlap.proofs.laws.pairs_by_signal.Goals as goal

pub returns : goal.returns
unfolding overlapping
returns c = by_signal c.args.fields.now c.args.walks.now c.requires
