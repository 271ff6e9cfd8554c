use Rattle.std.proofs.Common.{◌≡◌, map, take}
use Rattle.can_entries.specs.Switches.{mux_parent_of}
use Rattle.can_entries.proofs.switches.mux_parents_of.Given as goal

-- the multiplexing parents of the signals so far
abbrev pub invariant-loop-signal : goal.invariant-loop-signal
invariant-loop-signal g l = l.mux_parents ≡ map (mux_parent_of l.rows l.signals) (take l.signal-index l.signals)
