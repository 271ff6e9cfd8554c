use Rattle.std.proofs.Common.{◌≡◌, drop}
use Rattle.dbc_records.specs.Orders.{are_in_order_after}
use Rattle.dbc_records.proofs.order.are_in_order_after.Given as goal

-- the entries so far are in the order
abbrev pub invariant-loop-entry : goal.invariant-loop-entry
invariant-loop-entry l = are_in_order_after l.order l.last (drop l.entry-index l.entries) ≡ are_in_order_after l.order l.number
    l.entries
