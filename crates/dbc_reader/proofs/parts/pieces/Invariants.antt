use Rattle.std.proofs.Common.{◌≡◌, []}
use Rattle.dbc_reader.specs.inner.Cursors.{left_at}
use Rattle.dbc_reader.specs.inner.Readers.{size}
use Rattle.dbc_reader.specs.inner.Parts.{pieces_from}
use Rattle.dbc_reader.proofs.parts.pieces.Given as goal

abbrev pub invariant-pieces : goal.invariant-pieces
invariant-pieces l = pieces_from l.pieces (left_at l.at) ≡ pieces_from [] (left_at l.initial.at)

abbrev pub decreases-pieces : goal.decreases-pieces
decreases-pieces l = size (left_at l.at)
