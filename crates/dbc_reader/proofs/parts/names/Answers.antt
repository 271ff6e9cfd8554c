use Rattle.std.proofs.lemmas.Result.{err_from_is_err_and}
use Rattle.dbc_reader.specs.inner.Cursors.{left_at}
use Rattle.dbc_reader.proofs.Rounds.Lists.{names_fail}
use Rattle.dbc_reader.proofs.parts.names.Goals as goal

pub returns-in_err-found : goal.returns-in_err-found
returns-in_err-found c =
    let p = err_from_is_err_and c.from_residual.result c.from_residual.ensures.1 in
    rw (p.1, p.2) (names_fail _ c.names.names (left_at c.names.at) _ c.in_err-found.ensures.0 c.in_err-found.ensures.1
    c.names.invariant)
