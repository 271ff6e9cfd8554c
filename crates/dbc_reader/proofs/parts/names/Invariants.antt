use Rattle.std.proofs.Common.{◌≡◌}
use Rattle.dbc_reader.specs.inner.Cursors.{left_at}
use Rattle.dbc_reader.specs.inner.Readers.{size}
use Rattle.dbc_reader.specs.inner.Parts.{names_from}
use Rattle.dbc_reader.proofs.parts.names.Given as goal

abbrev pub invariant-names : goal.invariant-names
invariant-names l = names_from l.names (left_at l.at) ≡ names_from l.initial.names (left_at l.initial.at)

abbrev pub decreases-names : goal.decreases-names
decreases-names l = size (left_at l.at)
