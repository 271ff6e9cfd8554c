use Rattle.std.proofs.Common.{◌≡◌, []}
use Rattle.dbc_reader.specs.inner.Cursors.{left_at}
use Rattle.dbc_reader.specs.inner.Readers.{size}
use Rattle.dbc_reader.specs.inner.Parts.{entries_from}
use Rattle.dbc_reader.proofs.numerals.entries.Given as goal

abbrev pub invariant-entries : goal.invariant-entries
invariant-entries l = entries_from l.entries (left_at l.at) ≡ entries_from [] (left_at l.initial.at)

abbrev pub decreases-entries : goal.decreases-entries
decreases-entries l = size (left_at l.at)
