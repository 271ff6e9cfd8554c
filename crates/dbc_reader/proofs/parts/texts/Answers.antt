use Rattle.std.proofs.Common.{sym}
use Rattle.std.proofs.lemmas.Result.{err_from_is_err_and}
use Rattle.dbc_reader.specs.inner.Cursors.{left_at}
use Rattle.dbc_reader.proofs.Rounds.Lists.{texts_fail_first, texts_fail}
use Rattle.dbc_reader.proofs.parts.texts.Goals as goal

pub returns-in_err-mark : goal.returns-in_err-mark
returns-in_err-mark c =
    let p = err_from_is_err_and c.from_residual-in_err-mark.result c.from_residual-in_err-mark.ensures.1 in
    rw (p.1, p.2) (texts_fail_first _ c.further.texts (left_at c.further.at) _ (sym c.further-test.ensures) c.in_err-mark.ensures
    c.further.invariant)

pub returns-in_err-found : goal.returns-in_err-found
returns-in_err-found c =
    let p = err_from_is_err_and c.from_residual-in_err-found.result c.from_residual-in_err-found.ensures.1 in
    rw (p.1, p.2) (texts_fail _ c.further.texts (left_at c.further.at) _ _ (sym c.further-test.ensures) c.in_ok-mark.ensures
    c.in_err-found.ensures c.further.invariant)
