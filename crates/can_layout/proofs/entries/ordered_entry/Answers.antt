use Rattle.std.proofs.Common.{◌≤◌, length, Some, ap, sym, ◌∙◌, arith, rules}
use Rattle.std.specs.Int.{w128}
use Rattle.std.specs.Ordering.{int_eq}
use Rattle.std.proofs.lemmas.Int.{to_z-of_z}
use Rattle.dbc_records.specs.Records.{Entry}
use Rattle.can_layout.proofs.EntryOrders.{entry_there, none_there, none_at_end}
use Rattle.can_layout.proofs.entries.ordered_entry.Goals as goal

pub returns-then-has_number : goal.returns-then-has_number
returns-then-has_number c =
    let there = c.in-Some.ensures.lookup in
    let parted = rw (to_z-of_z w128 c.args.raw c.ranges.raw) at c.index_of-index.ensures.parted in
    let has = rw (to_z-of_z w128 c.args.raw c.ranges.raw) at c.has_number.ensures in
    ap Some there.1
    ∙ sym (entry_there c.args.order c.args.entries.now c.args.raw c.requires c.index_of-index.result parted.0
    c.in-Some.entry.now there.3.0
    (ap (λ (entry : Entry). int_eq entry.number c.args.raw) (sym there.1) ∙ sym has ∙ c.if-has_number.true))

pub returns-else-has_number : goal.returns-else-has_number
returns-else-has_number c =
    let there = c.in-Some.ensures.lookup in
    let parted = rw (to_z-of_z w128 c.args.raw c.ranges.raw) at c.index_of-index.ensures.parted in
    let has = rw (to_z-of_z w128 c.args.raw c.ranges.raw) at c.has_number.ensures in
    sym (none_there c.args.order c.args.entries.now c.args.raw c.requires c.index_of-index.result parted.0
    c.in-Some.entry.now there.3.0 (parted.1 c.index_of-index.result c.in-Some.entry.now (omega arith) there.3.0)
    (ap (λ (entry : Entry). int_eq entry.number c.args.raw) (sym there.1) ∙ sym has ∙ c.if-has_number.false))

pub returns-in_default : goal.returns-in_default
returns-in_default c =
    let end : length c.args.entries.now ≤ c.index_of-index.result = search rules in
    let parted = rw (to_z-of_z w128 c.args.raw c.ranges.raw) at c.index_of-index.ensures.parted in
    sym (none_at_end c.args.order c.args.entries.now c.args.raw c.requires c.index_of-index.result parted.0 end)
