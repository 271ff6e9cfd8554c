use Rattle.std.proofs.Common.{Some, ap, sym, ◌∙◌, arith, rules, ◌≤◌, length}
use Rattle.std.specs.Ordering.{is_eq}
use Rattle.can_entries.specs.Indexes.{key_order, key_of}
use Rattle.can_entries.proofs.SortedRows.{first_there, none_there, none_at_end}
use Rattle.can_entries.proofs.IndexedRows.{key_order-total}
use Rattle.can_entries.proofs.index.entry_by_name.Goals as goal

pub returns-then-has_key : goal.returns-then-has_key
returns-then-has_key g c =
    let there = c.in-Some.ensures.lookup in
    ap Some there.1
    ∙ sym (first_there key_order-total (key_of g.R.Keyed.signal_of) (c.args.hash, c.args.name.now) c.args.entries.now c.requires
    c.index_of-index.result c.index_of-index.ensures.parted.0 c.in-Some.entry.now there.3.0
    (ap (λ entry. is_eq (key_order (key_of g.R.Keyed.signal_of entry) (c.args.hash, c.args.name.now))) (sym there.1)
    ∙ sym c.has_key.ensures ∙ c.if-has_key.true))

pub returns-else-has_key : goal.returns-else-has_key
returns-else-has_key g c =
    let there = c.in-Some.ensures.lookup in
    sym (none_there key_order-total (key_of g.R.Keyed.signal_of) (c.args.hash, c.args.name.now) c.args.entries.now c.requires
    c.index_of-index.result c.index_of-index.ensures.parted.0 c.in-Some.entry.now there.3.0
    (c.index_of-index.ensures.parted.1 c.index_of-index.result c.in-Some.entry.now (omega arith) there.3.0)
    (ap (λ entry. is_eq (key_order (key_of g.R.Keyed.signal_of entry) (c.args.hash, c.args.name.now))) (sym there.1)
    ∙ sym c.has_key.ensures ∙ c.if-has_key.false))

pub returns-in_default : goal.returns-in_default
returns-in_default g c =
    let end : length c.args.entries.now ≤ c.index_of-index.result = search rules in
    sym (none_at_end key_order-total (key_of g.R.Keyed.signal_of) (c.args.hash, c.args.name.now) c.args.entries.now c.requires
    c.index_of-index.result c.index_of-index.ensures.parted.0 end)
