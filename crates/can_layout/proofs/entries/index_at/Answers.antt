use Rattle.std.proofs.Common.{◌∙◌}
use Rattle.std.specs.Int.{w128}
use Rattle.std.proofs.lemmas.Int.{to_z-of_z}
use Rattle.can_layout.proofs.entries.index_at.Goals as goal

pub returns : goal.returns
returns c = c.copied.ensures ∙ rw (to_z-of_z w128 c.args.raw c.ranges.raw) at c.get.ensures.value
