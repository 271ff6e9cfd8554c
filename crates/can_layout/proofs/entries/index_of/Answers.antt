use Rattle.std.proofs.Common.{◌≡◌, true, false, subst, sym, rules}
use Rattle.std.specs.Prelude.{int_lt}
use Rattle.std.specs.List.Sorted.{IsPartitionPoint}
use Rattle.std.proofs.lemmas.List.Sorted.{IsPartitionPoint-from_clause}
use Rattle.dbc_records.specs.Records.{Entry}
use Rattle.dbc_records.specs.declared.order.EntryOrder.{EntryOrder}
use Rattle.dbc_records.specs.declared.order.EntryOrder.TheVariants as orders
use Rattle.dbc_records.specs.Orders.{precedes, are_in_order}
use Rattle.can_layout.proofs.EntryOrders.{parted}
use Rattle.can_layout.proofs.entries.index_of.Goals as goal

pub returns-in-Rising-clause-parted : goal.returns-in-Rising-clause-parted
returns-in-Rising-clause-parted c =
    let Parted : EntryOrder → Type 0 = λ order. IsPartitionPoint (λ (entry : Entry). precedes order entry.number c.args.raw ≡ true)
    (λ (entry : Entry). precedes order entry.number c.args.raw ≡ false) c.args.entries.now c.partition_point.result in
    let Ordered : EntryOrder → Type 0 = λ order. are_in_order order c.args.entries.now ≡ true in
    subst Parted (sym c.in-Rising.is)
    (IsPartitionPoint-from_clause (λ (entry : Entry). int_lt entry.number c.args.raw) c.args.entries.now
    c.partition_point.result c.partition_point.ensures.partitioned
    (parted orders.Rising c.args.entries.now c.args.raw (subst Ordered c.in-Rising.is c.requires)) (λ a r q k. search rules))

pub returns-in-Falling-clause-parted : goal.returns-in-Falling-clause-parted
returns-in-Falling-clause-parted c =
    let Parted : EntryOrder → Type 0 = λ order. IsPartitionPoint (λ (entry : Entry). precedes order entry.number c.args.raw ≡ true)
    (λ (entry : Entry). precedes order entry.number c.args.raw ≡ false) c.args.entries.now c.partition_point-in-Falling.result in
    let Ordered : EntryOrder → Type 0 = λ order. are_in_order order c.args.entries.now ≡ true in
    subst Parted (sym c.in-Falling.is)
    (IsPartitionPoint-from_clause (λ (entry : Entry). int_lt c.args.raw entry.number) c.args.entries.now
    c.partition_point-in-Falling.result c.partition_point-in-Falling.ensures.partitioned
    (parted orders.Falling c.args.entries.now c.args.raw (subst Ordered c.in-Falling.is c.requires)) (λ a r q k. search rules))
