use Rattle.std.proofs.Common.{◌≡◌, [], IsTrue}
use Rattle.dbc_records.specs.Records.{signals_fit}
use Rattle.dbc_reader.specs.inner.Cursors.{left_at}
use Rattle.dbc_reader.specs.inner.Readers.{size}
use Rattle.dbc_reader.specs.inner.Messages.{signals_from}
use Rattle.dbc_reader.proofs.messages.signals.Given as goal

abbrev pub invariant-signals : goal.invariant-signals
invariant-signals l = (signals_from l.signals (left_at l.at) ≡ signals_from [] (left_at l.initial.at))
    × IsTrue (signals_fit l.signals)

abbrev pub decreases-signals : goal.decreases-signals
decreases-signals l = size (left_at l.at)
