use Rattle.std.proofs.Common.{sym}
use Rattle.std.proofs.lemmas.Result.{err_from_is_err_and}
use Rattle.dbc_reader.specs.inner.Cursors.{left_at}
use Rattle.dbc_reader.proofs.Rounds.Lists.{symbols_fail}
use Rattle.dbc_reader.proofs.parts.symbols.Goals as goal

pub returns-in_err-found : goal.returns-in_err-found
returns-in_err-found c =
    let p = err_from_is_err_and c.from_residual.result c.from_residual.ensures.1 in
    rw (p.1, p.2) (symbols_fail _ c.symbols.symbols (left_at c.symbols.at) _ (sym c.symbols-test.ensures) c.in_err-found.ensures
    c.symbols.invariant)
