use Rattle.std.proofs.Common.{◌≡◌, false, ◌++◌, map, take}
use Rattle.std.specs.List.{flat_map}
use Rattle.can_references.specs.RowFaults.{faults_of_row}
use Rattle.can_references.proofs.row_rules.push_alone.Given as goal

-- the entries so far
abbrev pub invariant-loop-row : goal.invariant-loop-row
invariant-loop-row g l = l.found.items ≡ l.initial.found.items ++ flat_map (faults_of_row l.known false)
    (map g.R.DatabaseEntry.key_of (take l.row-index l.rows))
