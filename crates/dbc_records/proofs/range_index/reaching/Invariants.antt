use Rattle.std.proofs.Common.{◌≡◌, take}
use Rattle.dbc_records.specs.inner.RangeIndexes.{reaching}
use Rattle.dbc_records.proofs.Reaching.{most_of}
use Rattle.dbc_records.proofs.range_index.reaching.Given as goal

-- the ranges so far
abbrev pub invariant-loop-range : goal.invariant-loop-range
invariant-loop-range l = record {
  index : l.index.items ≡ reaching 0 (take l.range-index l.ordered);
  most : l.most ≡ most_of 0 (take l.range-index l.ordered);
}
