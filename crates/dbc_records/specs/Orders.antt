-- Entries in the order of their raw values.
use Rattle.std.specs.Prelude.{ℤ, Bool, true, ◌&&◌, int_lt, List, [], ◌∷◌, Option, Some, None, if◌then◌else◌}
use Rattle.dbc_records.specs.Records.{Entry}
use Rattle.dbc_records.specs.declared.order.EntryOrder.{EntryOrder}
use Rattle.dbc_records.specs.declared.order.EntryOrder.TheVariants as orders

-- a number precedes another one in an order
abbrev pub precedes : EntryOrder → ℤ → ℤ → Bool
precedes orders.Rising number other = int_lt number other
precedes orders.Falling number other = int_lt other number

-- the number precedes that of the first entry, and each entry's number precedes that of the next
abbrev pub are_in_order_after : EntryOrder → ℤ → List Entry → Bool
are_in_order_after order number [] = true
are_in_order_after order number (entry ∷ entries) = precedes order number entry.number
    && are_in_order_after order entry.number entries

-- each entry's number precedes that of the next
abbrev pub are_in_order : EntryOrder → List Entry → Bool
are_in_order order [] = true
are_in_order order (entry ∷ entries) = are_in_order_after order entry.number entries

-- the order that entries are in, if they are in one; fewer than two are rising
abbrev pub entry_order : List Entry → Option EntryOrder
entry_order entries = if are_in_order orders.Rising entries then Some orders.Rising
    else (if are_in_order orders.Falling entries then Some orders.Falling else None)
