use Rattle.std.proofs.Common.{sym}
use Rattle.std.proofs.lemmas.Result.{err_from_is_err_and}
use Rattle.dbc_reader.specs.inner.Cursors.{left_at}
use Rattle.dbc_reader.proofs.Rounds.Signals.{signals_on, signals_fail}
use Rattle.dbc_reader.proofs.Facts.MessageNames.{signals_fit_more}
use Rattle.dbc_reader.proofs.messages.signals.Goals as goal

pub returns-in_err-found-clause-value : goal.returns-in_err-found-clause-value
returns-in_err-found-clause-value c =
    let p = err_from_is_err_and c.from_residual.result c.from_residual.ensures.1 in
    rw (p.1, p.2) (signals_fail _ c.signals.signals _ (left_at c.signals.at) _ (sym c.signals-test.ensures)
    c.in_err-found.ensures.value c.as_slice.ensures.value c.signals.invariant.0)

pub signals-preserved : goal.signals-preserved
signals-preserved c = (
  signals_on c.signals.signals _ c.push.new.self c.in_ok-found.found (left_at c.signals.at) _ _ (sym c.signals-test.ensures)
      c.in_ok-found.ensures.value c.as_slice.ensures.value c.in_ok-push.ensures.ok c.signals.invariant.0,
  signals_fit_more c.signals.signals _ c.push.new.self c.in_ok-found.found c.signals.invariant.1 c.as_slice.ensures.value
      c.in_ok-found.ensures.count c.in_ok-found.ensures.fresh c.in_ok-push.ensures.ok,
)
