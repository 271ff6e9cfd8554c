use Rattle.std.proofs.Common.{◌≡◌, length}
use Rattle.dbc_ranges.specs.Ranges.{items_left, named}
use Rattle.dbc_ranges.proofs.items.Items.named.Given as goal

-- the item is among those that are left
abbrev pub invariant-items : goal.invariant-items
invariant-items l = named l.name (items_left l.self) ≡ named l.name (items_left l.initial.self)

abbrev pub decreases-items : goal.decreases-items
decreases-items l = length (items_left l.self)
