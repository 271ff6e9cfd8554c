use Rattle.std.proofs.Common.{◌≡◌, length}
use Rattle.dbc_ranges.specs.Ranges.{items_left, described_value}
use Rattle.dbc_ranges.proofs.items.Items.described_value.Given as goal

-- the item is among those that are left
abbrev pub invariant-items : goal.invariant-items
invariant-items l =
    described_value l.wanted.number l.before (items_left l.self)
    ≡ described_value l.wanted.number l.wanted.index (items_left l.initial.self)

abbrev pub decreases-items : goal.decreases-items
decreases-items l = length (items_left l.self)
