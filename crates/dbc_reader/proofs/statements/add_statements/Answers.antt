use Rattle.std.proofs.Common.{sym, ◌∙◌}
use Rattle.std.proofs.lemmas.Result.{err_from_is_err_and}
use Rattle.dbc_reader.specs.inner.Cursors.{left_at}
use Rattle.dbc_reader.proofs.Facts.Keywords.{statement_begins}
use Rattle.dbc_reader.proofs.Rounds.Statements.{statements_fail}
use Rattle.dbc_reader.proofs.statements.add_statements.Goals as goal

pub returns-in_err-add_statement : goal.returns-in_err-add_statement
returns-in_err-add_statement c =
    let p = err_from_is_err_and c.from_residual.result c.from_residual.ensures.1 in
    rw (p.1, p.2) (statements_fail _ c.statements.database (left_at c.statements.at) _ (statement_begins c.in-Some.keyword
    (left_at c.statements.at) (sym c.keyword.ensures ∙ c.in-Some.is)) c.in_err-add_statement.ensures c.statements.invariant)
