use Rattle.can_layout.specs.Presence.{IsRun, parent_at}
use Rattle.can_layout.proofs.runs.run_end.Given as goal

-- so far the parent multiplexor is the same
abbrev pub invariant-loop-end : goal.invariant-loop-end
invariant-loop-end l = IsRun (parent_at l.rows l.mux_parents) l.index l.end
