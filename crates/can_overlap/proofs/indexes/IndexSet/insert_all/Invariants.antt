use Rattle.std.proofs.Common.{◌≡◌, ℕ, ◌<◌, ◌≤◌, get_or}
use Rattle.std.specs.Int.RustNames.{bit_or}
use Rattle.can_overlap.proofs.indexes.IndexSet.insert_all.Given as goal

-- the words below i are joined, and the others are unchanged
abbrev pub invariant-loop-i : goal.invariant-loop-i
invariant-loop-i l = record {
  joined : (k : ℕ) → k < l.i → get_or l.self.words k 0 ≡ bit_or (get_or l.fn.self.words k 0) (get_or l.more.words k 0);
  others : (k : ℕ) → l.i ≤ k → get_or l.self.words k 0 ≡ get_or l.fn.self.words k 0;
}
