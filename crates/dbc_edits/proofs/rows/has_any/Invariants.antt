use Rattle.std.proofs.Common.{◌≡◌, drop}
use Rattle.std.specs.List.{list_any}
use Rattle.dbc_edits.proofs.rows.has_any.Given as goal

abbrev pub invariant-loop-row : goal.invariant-loop-row
invariant-loop-row g l = list_any (g.K.Key.has l.key) (drop l.row-index l.rows) ≡ list_any (g.K.Key.has l.key) l.rows
