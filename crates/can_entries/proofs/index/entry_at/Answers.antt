use Rattle.std.proofs.Common.{Some, ap, sym, ◌∙◌, arith, rules, ◌≤◌, length, get_or}
use Rattle.std.specs.Ordering.{is_eq, is_lt}
use Rattle.can_entries.specs.Indexes.{key_order, key_of}
use Rattle.can_entries.proofs.SortedRows.{first_there, none_there, none_at_end}
use Rattle.can_entries.proofs.IndexedRows.{key_order-total, ahead_by_hash, hash_above}
use Rattle.can_entries.proofs.index.entry_at.Goals as goal

pub returns-in_default : goal.returns-in_default
returns-in_default g c =
    let end : length c.args.entries.now ≤ c.index_of_hash-index.result = search rules in
    sym (none_at_end key_order-total (key_of g.R.Keyed.signal_of) (c.args.hash, c.args.name.now) c.args.entries.now c.requires
    c.index_of_hash-index.result (ahead_by_hash g.R.Keyed.signal_of c.args.hash c.args.name.now c.args.entries.now
    c.index_of_hash-index.result c.index_of_hash-index.ensures.parted.0) end)

pub returns-then-entry-hash : goal.returns-then-entry-hash
returns-then-entry-hash g c =
    let there = c.in-Some.ensures.lookup in
    let above =
    hash_above (key_of g.R.Keyed.signal_of (get_or c.args.entries.now c.index_of_hash-index.result c.in-Some.entry.now))
    c.args.hash c.args.name.now
    (c.index_of_hash-index.ensures.parted.1 c.index_of_hash-index.result c.in-Some.entry.now (omega arith) there.3.0)
    (λ same. c.if-entry-hash.true (ap (λ entry. entry.hash) there.1 ∙ same)) in
    sym (none_there key_order-total (key_of g.R.Keyed.signal_of) (c.args.hash, c.args.name.now) c.args.entries.now c.requires
    c.index_of_hash-index.result (ahead_by_hash g.R.Keyed.signal_of c.args.hash c.args.name.now c.args.entries.now
    c.index_of_hash-index.result c.index_of_hash-index.ensures.parted.0) c.in-Some.entry.now there.3.0 (ap is_lt above)
    (ap is_eq above))

pub returns-then-has_key : goal.returns-then-has_key
returns-then-has_key g c =
    let there = c.in-Some.ensures.lookup in
    ap Some there.1
    ∙ sym (first_there key_order-total (key_of g.R.Keyed.signal_of) (c.args.hash, c.args.name.now) c.args.entries.now c.requires
    c.index_of_hash-index.result (ahead_by_hash g.R.Keyed.signal_of c.args.hash c.args.name.now c.args.entries.now
    c.index_of_hash-index.result c.index_of_hash-index.ensures.parted.0) c.in-Some.entry.now there.3.0
    (ap (λ entry. is_eq (key_order (key_of g.R.Keyed.signal_of entry) (c.args.hash, c.args.name.now))) (sym there.1)
    ∙ sym c.has_key.ensures ∙ c.if-has_key.true))
