use Rattle.std.proofs.Common.{◌≡◌, drop}
use Rattle.dbc_ranges.specs.Ranges.{items_left}
use Rattle.dbc_ranges.proofs.items.Items.skip.Given as goal

-- this many were skipped
abbrev pub invariant-loop : goal.invariant-loop
invariant-loop l = items_left l.self ≡ drop l.counter (items_left l.initial.self)
