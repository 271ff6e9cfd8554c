use Rattle.std.proofs.Common.{◌≡◌, ◌-◌}
use Rattle.can_layout.specs.Plans.{chain_of, are_met}
use Rattle.can_entries.specs.Walks.{walk_of, walk_up}
use Rattle.can_layout.proofs.plan.are_met.Given as goal

-- the rest of the chain is met if the whole chain is
abbrev pub invariant-loop-passed : goal.invariant-loop-passed
invariant-loop-passed l = are_met l.bytes l.rows (chain_of (walk_of l.mux_parents l.index))
    ≡ are_met l.bytes l.rows (chain_of (walk_up (l._passed-end - l._passed) l.mux_parents l.current))
