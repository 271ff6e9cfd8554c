use Rattle.std.proofs.Common.{◌≡◌, ◌<◌, ◌≤◌, length}
use Rattle.can_layout.specs.Presence.{IsLongestRun, AreRuns, parent_at}
use Rattle.can_layout.proofs.runs.runs_of.Given as goal

-- the runs so far, and that of the next index, if it is known
abbrev pub invariant-loop-index : goal.invariant-loop-index
invariant-loop-index l = record {
  count : length l.runs.items ≡ l.index;
  runs : AreRuns l.rows l.runs.items;
  first : l.first ≤ l.index;
  run : l.index < l.end → IsLongestRun (parent_at l.rows l.mux_parents) (length l.rows) l.first l.end;
}
