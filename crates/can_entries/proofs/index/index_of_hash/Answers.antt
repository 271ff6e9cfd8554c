use Rattle.std.proofs.Common.{nat_lt, rules}
use Rattle.std.proofs.lemmas.List.Sorted.{IsPartitionPoint-from_clause}
use Rattle.can_entries.proofs.IndexedRows.{parted_by_hash}
use Rattle.can_entries.proofs.index.index_of_hash.Goals as goal

pub returns-clause-parted : goal.returns-clause-parted
returns-clause-parted g c =
    IsPartitionPoint-from_clause (λ entry. nat_lt entry.hash c.args.hash) c.args.entries.now c.partition_point.result
    c.partition_point.ensures.partitioned (parted_by_hash g.R.Keyed.signal_of c.args.hash c.args.entries.now c.requires)
    (λ a r q k. search rules)
