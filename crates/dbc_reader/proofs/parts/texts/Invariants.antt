use Rattle.std.proofs.Common.{◌≡◌, [], ◌∷◌}
use Rattle.dbc_reader.specs.inner.Cursors.{left_at}
use Rattle.dbc_reader.specs.inner.Readers.{size}
use Rattle.dbc_reader.specs.inner.Parts.{texts_from}
use Rattle.dbc_reader.proofs.parts.texts.Given as goal

abbrev pub invariant-further : goal.invariant-further
invariant-further l = texts_from l.texts (left_at l.at) ≡ texts_from (l.fn.first ∷ []) (left_at l.initial.at)

abbrev pub decreases-further : goal.decreases-further
decreases-further l = size (left_at l.at)
