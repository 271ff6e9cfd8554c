use Rattle.std.proofs.Common.{◌≡◌, ◌++◌, All, map, take, drop}
use Rattle.dbc_values.proofs.list.rewrite_items.Given as goal

abbrev pub invariant-loop-item : goal.invariant-loop-item
invariant-loop-item g l =
    (l.items ≡ map (g.R.Rewrite.rewritten l.change) (take l.item-index l.initial.items) ++ drop l.item-index l.initial.items)
    × All g.T.Checked.IsValid l.items
