use Rattle.std.proofs.Common.{◌≡◌}
use Rattle.dbc_reader.specs.inner.Cursors.{left_at}
use Rattle.dbc_reader.specs.inner.Readers.{size}
use Rattle.dbc_reader.specs.inner.Parts.{symbols_from}
use Rattle.dbc_reader.proofs.parts.symbols.Given as goal

abbrev pub invariant-symbols : goal.invariant-symbols
invariant-symbols l = symbols_from l.symbols (left_at l.at) ≡ symbols_from l.initial.symbols (left_at l.initial.at)

abbrev pub decreases-symbols : goal.decreases-symbols
decreases-symbols l = size (left_at l.at)
