use Rattle.std.proofs.Common.{◌≡◌, ◌-◌, is_some}
use Rattle.can_layout.specs.Plans.{chain_of}
use Rattle.can_entries.specs.Walks.{walk_of, walk_up}
use Rattle.can_layout.proofs.switch_chain.is_chain.Given as goal

-- the rest of the walk is a chain if the whole walk is
abbrev pub invariant-loop-passed : goal.invariant-loop-passed
invariant-loop-passed l = is_some (chain_of (walk_of l.mux_parents l.index))
    ≡ is_some (chain_of (walk_up (l._passed-end - l._passed) l.mux_parents l.current))
