use Rattle.std.proofs.Common.{◌≡◌, ◌++◌, map, length}
use Rattle.can_findings.specs.Beginnings.{at_starts}
use Rattle.can_findings.specs.RowLocations.{keys_in, findings_after}
use Rattle.can_findings.proofs.row_locations.push_rows_at.Given as goal

-- what is left is put after what was found, and its keys after those that were seen
abbrev pub invariant-rows : goal.invariant-rows
invariant-rows g l = record {
  findings : l.findings.items ++ findings_after l.known l.seen (at_starts (map g.R.DatabaseEntry.key_of l.left) l.further)
      ≡ l.initial.findings.items
      ++ findings_after l.known l.initial.seen (at_starts (map g.R.DatabaseEntry.key_of l.rows) l.starts);
  seen : l.seen ++ keys_in (at_starts (map g.R.DatabaseEntry.key_of l.left) l.further)
      ≡ l.initial.seen ++ keys_in (at_starts (map g.R.DatabaseEntry.key_of l.rows) l.starts);
}

abbrev pub decreases-rows : goal.decreases-rows
decreases-rows g l = length l.left
