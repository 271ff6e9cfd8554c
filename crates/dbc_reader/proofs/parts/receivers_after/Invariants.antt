use Rattle.std.proofs.Common.{◌≡◌, [], ◌∷◌}
use Rattle.dbc_reader.specs.inner.Cursors.{left_at}
use Rattle.dbc_reader.specs.inner.Readers.{size}
use Rattle.dbc_reader.specs.inner.Parts.{receivers_from}
use Rattle.dbc_reader.proofs.parts.receivers_after.Given as goal

abbrev pub invariant-receivers : goal.invariant-receivers
invariant-receivers l = receivers_from l.names (left_at l.at) ≡ receivers_from (l.fn.first ∷ []) (left_at l.initial.at)

abbrev pub decreases-receivers : goal.decreases-receivers
decreases-receivers l = size (left_at l.at)
