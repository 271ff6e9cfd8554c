use Rattle.std.proofs.lemmas.Result.{err_from_is_err_and}
use Rattle.dbc_reader.specs.inner.Cursors.{left_at}
use Rattle.dbc_reader.proofs.Rounds.Lists.{entries_fail}
use Rattle.dbc_reader.proofs.numerals.entries.Goals as goal

pub returns-in_err-found : goal.returns-in_err-found
returns-in_err-found c =
    let p = err_from_is_err_and c.from_residual.result c.from_residual.ensures.1 in
    rw (p.1, p.2) (entries_fail _ c.entries.entries (left_at c.entries.at) _ c.in_err-found.ensures.0 c.in_err-found.ensures.1
    c.entries.invariant)
