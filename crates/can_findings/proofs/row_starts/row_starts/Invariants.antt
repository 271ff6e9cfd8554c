use Rattle.std.proofs.Common.{◌≡◌, ◌++◌, map, length}
use Rattle.can_findings.specs.RowStarts.{key_start, key_starts}
use Rattle.can_findings.proofs.row_starts.row_starts.Given as goal

-- what is left is put after what was made
abbrev pub invariant-rows : goal.invariant-rows
invariant-rows g l =
    map key_start l.made.items ++ key_starts g.R.Keyed.number_of g.R.Keyed.signal_of l.left l.further
    ≡ key_starts g.R.Keyed.number_of g.R.Keyed.signal_of l.rows l.starts

abbrev pub decreases-rows : goal.decreases-rows
decreases-rows g l = length l.left
