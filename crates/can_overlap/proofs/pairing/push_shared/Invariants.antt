use Rattle.std.proofs.Common.{◌≡◌, ◌+◌, ◌-◌, ◌<◌, ◌≤◌, ◌++◌, take, drop, true}
use Rattle.std.specs.List.{flat_map, enumerate_from}
use Rattle.can_overlap.specs.inner.IndexSet.{has}
use Rattle.can_overlap.specs.inner.Occupancy.{shared_pair}
use Rattle.can_overlap.specs.inner.MuxPaths.{AreNoted}
use Rattle.can_overlap.proofs.pairing.push_shared.Given as goal

-- the later signals before `next` are done, and `next` is met
abbrev pub invariant-loop-next : goal.invariant-loop-next
invariant-loop-next l = record {
  forward : l.first + 1 ≤ l.next;
  shared : l.next < 1024 → has l.shared.words l.next ≡ true;
  noted : AreNoted l.indexed l.noted;
  done : l.found.items ≡ l.fn.found.items ++ flat_map (shared_pair l.first l.indexed.links l.shared.words)
      (take (l.next - (l.first + 1)) (enumerate_from (l.first + 1) (drop (l.first + 1) l.indexed.walks)));
}

abbrev pub decreases-loop-next : goal.decreases-loop-next
decreases-loop-next l = l.end - l.next
