use Rattle.std.proofs.Common.{rules}
use Rattle.std.proofs.lemmas.List.Edits.{map_over_more}
use Rattle.std.proofs.lemmas.List.Elements.{All-set}
use Rattle.dbc_values.proofs.list.rewrite_items.Goals as goal

pub loop-item-preserved : goal.loop-item-preserved
loop-item-preserved g c = (
  rw c.rewrite.ensures.new
      (map_over_more (g.R.Rewrite.rewritten c.args.change.now) c.args.items.now c.loop-item.items c.loop-item.item-index _
      (search rules) c.loop-item.invariant.0 (search rules)),
  All-set g.T.Checked.IsValid _ _ _ c.rewrite.ensures.valid c.loop-item.invariant.1,
)
