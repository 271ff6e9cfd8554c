use Rattle.std.proofs.Common.{rules}
use Rattle.std.specs.Ordering.{is_lt}
use Rattle.std.proofs.lemmas.List.Sorted.{IsPartitionPoint-from_clause}
use Rattle.can_entries.specs.Indexes.{key_order, key_of}
use Rattle.can_entries.proofs.SortedRows.{parted}
use Rattle.can_entries.proofs.IndexedRows.{key_order-total}
use Rattle.can_entries.proofs.index.index_of.Goals as goal

pub returns-clause-parted : goal.returns-clause-parted
returns-clause-parted g c =
    IsPartitionPoint-from_clause (λ entry. is_lt (key_order (key_of g.R.Keyed.signal_of entry) (c.args.hash, c.args.name.now)))
    c.args.entries.now c.partition_point.result c.partition_point.ensures.partitioned
    (parted key_order-total (key_of g.R.Keyed.signal_of) (c.args.hash, c.args.name.now) c.args.entries.now c.requires)
    (λ a r q k. search rules)
