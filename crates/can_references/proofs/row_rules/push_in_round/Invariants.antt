use Rattle.std.proofs.Common.{◌≡◌, [], ◌++◌, map, take}
use Rattle.can_references.specs.Finding.{each_after}
use Rattle.can_references.specs.RowFaults.{row_fault}
use Rattle.can_references.proofs.row_rules.push_in_round.Given as goal

-- the entries so far
abbrev pub invariant-loop-row : goal.invariant-loop-row
invariant-loop-row g l = record {
  found : l.found.items ≡ l.initial.found.items
      ++ each_after (row_fault l.known) [] (map g.R.DatabaseEntry.key_of (take l.row-index l.rows));
  seen : l.seen ≡ map g.R.DatabaseEntry.key_of (take l.row-index l.rows);
}
