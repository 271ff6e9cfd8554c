use Rattle.std.proofs.Common.{◌≡◌, length}
use Rattle.dbc_ranges.specs.Ranges.{items_left, after_colon}
use Rattle.dbc_ranges.proofs.items.Items.skip_colon.Given as goal

-- no colon was left out
abbrev pub invariant-items : goal.invariant-items
invariant-items l = after_colon (items_left l.self) ≡ after_colon (items_left l.initial.self)

abbrev pub decreases-items : goal.decreases-items
decreases-items l = length (items_left l.self)
