use Rattle.std.proofs.Common.{◌≡◌, ◌++◌, map, length}
use Rattle.can_findings.specs.Beginnings.{at_starts}
use Rattle.can_json_findings.specs.Locations.{entry_lines}
use Rattle.can_json_findings.proofs.entry_locations.push_entries.Given as goal

-- the lines so far and those that are left are all of them
abbrev pub invariant-rows : goal.invariant-rows
invariant-rows g l =
    l.lines.items ++ entry_lines l.text (at_starts (map g.R.DatabaseEntry.key_of l.left) l.further)
    ≡ l.initial.lines.items ++ entry_lines l.text (at_starts (map g.R.DatabaseEntry.key_of l.rows) l.starts)

abbrev pub decreases-rows : goal.decreases-rows
decreases-rows g l = length l.left
