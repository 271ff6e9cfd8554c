use Rattle.std.proofs.Common.{◌≡◌, ◌-◌}
use Rattle.can_entries.specs.Walks.{walk_of, walk_up}
use Rattle.can_entries.proofs.WalkSteps.{links_then}
use Rattle.can_entries.proofs.walk.walk_of.Given as goal

-- the links so far, and then the rest of the walk
abbrev pub invariant-loop-passed : goal.invariant-loop-passed
invariant-loop-passed l = walk_of l.mux_parents l.index ≡ links_then l.links (walk_up (l._passed-end - l._passed) l.mux_parents
    l.current)
