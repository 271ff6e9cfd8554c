use Rattle.std.proofs.Common.{◌≡◌, ◌+◌, drop}
use Rattle.std.specs.List.{position_or_len}
use Rattle.dbc_edits.proofs.rows.index_of.Given as goal

abbrev pub invariant-loop-index : goal.invariant-loop-index
invariant-loop-index g l = l.index + position_or_len (g.K.Key.has l.key) (drop l.index l.rows) ≡ position_or_len (g.K.Key.has l.key)
    l.rows
