use Rattle.std.proofs.Common.{◌≡◌, ◌==◌, drop, filter}
use Rattle.can_entries.specs.Rows.{first_named}
use Rattle.can_entries.proofs.row.first_row.Given as goal

-- none of the entries so far has the key
abbrev pub invariant-loop-row : goal.invariant-loop-row
invariant-loop-row g l = first_named g.R.Keyed.signal_of l.signal (filter (λ row. g.R.Keyed.number_of row == l.number)
    (drop l.row-index l.rows)) ≡ first_named g.R.Keyed.signal_of l.signal (filter (λ row. g.R.Keyed.number_of row == l.number)
    l.rows)
