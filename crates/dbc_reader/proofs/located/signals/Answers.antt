use Rattle.std.proofs.Common.{sym}
use Rattle.std.proofs.lemmas.Result.{err_from_is_err_and}
use Rattle.dbc_reader.specs.inner.Cursors.{left_at}
use Rattle.dbc_reader.proofs.Rounds.Located.{signals_fail}
use Rattle.dbc_reader.proofs.located.signals.Goals as goal

pub returns-in_err-found-clause-value : goal.returns-in_err-found-clause-value
returns-in_err-found-clause-value c =
    let p = err_from_is_err_and c.from_residual.result c.from_residual.ensures.1 in
    rw (p.1, p.2) (signals_fail _ c.signals.signals _ c.signals.signal_starts (left_at c.signals.at) _ (sym c.signals-test.ensures)
    c.in_err-found.ensures.value c.as_slice.ensures.value c.signals.invariant.0)
