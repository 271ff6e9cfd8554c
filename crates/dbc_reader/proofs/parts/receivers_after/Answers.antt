use Rattle.std.proofs.Common.{sym}
use Rattle.std.proofs.lemmas.Result.{err_from_is_err_and}
use Rattle.dbc_reader.specs.inner.Cursors.{left_at}
use Rattle.dbc_reader.proofs.Rounds.Lists.{receivers_fail_first, receivers_fail}
use Rattle.dbc_reader.proofs.parts.receivers_after.Goals as goal

pub returns-in_err-comma : goal.returns-in_err-comma
returns-in_err-comma c =
    let p = err_from_is_err_and c.from_residual-in_err-comma.result c.from_residual-in_err-comma.ensures.1 in
    rw (p.1, p.2) (receivers_fail_first _ c.receivers.names (left_at c.receivers.at) _ (sym c.receivers-test.ensures)
    c.in_err-comma.ensures c.receivers.invariant)

pub returns-in_err-found : goal.returns-in_err-found
returns-in_err-found c =
    let p = err_from_is_err_and c.from_residual-in_err-found.result c.from_residual-in_err-found.ensures.1 in
    rw (p.1, p.2) (receivers_fail _ c.receivers.names (left_at c.receivers.at) _ _ (sym c.receivers-test.ensures)
    c.in_ok-comma.ensures c.in_err-found.ensures c.receivers.invariant)
