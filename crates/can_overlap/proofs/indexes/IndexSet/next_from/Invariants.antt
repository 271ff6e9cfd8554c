use Rattle.std.proofs.Common.{◌-◌, ◌≡◌, ℕ, ◌<◌, ◌≤◌, false}
use Rattle.can_overlap.specs.inner.IndexSet.{has}
use Rattle.can_overlap.proofs.indexes.IndexSet.next_from.Given as goal

-- no index from `from` up to here is in the set
abbrev pub invariant-loop-index : goal.invariant-loop-index
invariant-loop-index l = record {
  forward : l.from ≤ l.index;
  within : l.index ≤ 1024;
  none_between : (index : ℕ) → l.from ≤ index → index < l.index → has l.self.words index ≡ false;
}

abbrev pub decreases-loop-index : goal.decreases-loop-index
decreases-loop-index l = 1024 - l.index
