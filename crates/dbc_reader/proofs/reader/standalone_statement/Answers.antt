use Rattle.std.proofs.Common.{sym, refl}
use Rattle.std.specs.Prelude.{codes}
use Rattle.std.proofs.lemmas.Result.{err_from_is_err_and}
use Rattle.dbc_reader.specs.inner.Cursors.{left_at, with_word}
use Rattle.dbc_reader.specs.inner.Tables.{table_at, mux_at}
use Rattle.dbc_reader.proofs.Facts.Keywords.{table_alone, mux_alone}
use Rattle.dbc_reader.proofs.Rounds.Lists.{fails_bind}
use Rattle.dbc_reader.proofs.reader.standalone_statement.Goals as goal

pub returns-in_err-table : goal.returns-in_err-table
returns-in_err-table c =
    let p = err_from_is_err_and c.from_residual-in_err-table.result c.from_residual-in_err-table.ensures.1 in
    rw (p.1, p.2, table_alone (left_at c.args.at.now) (sym c.if-starts_word-3.ensures), ← c.following.ensures)
    (fails_bind _ (table_at (with_word (codes "VAL_TABLE_") (left_at c.following.result))) _ c.in_err-table.ensures)

pub returns-then-starts_word-3 : goal.returns-then-starts_word-3
returns-then-starts_word-3 c = rw (
  table_alone (left_at c.args.at.now) (sym c.if-starts_word-3.ensures),
  ← c.following.ensures,
  c.in_ok-table.ensures,
) refl

pub returns-in_err-mux : goal.returns-in_err-mux
returns-in_err-mux c =
    let p = err_from_is_err_and c.from_residual-in_err-mux.result c.from_residual-in_err-mux.ensures.1 in
    rw (p.1, p.2, mux_alone (left_at c.args.at.now) (sym c.if-starts_word-5.ensures), ← c.following-then-starts_word-5.ensures)
    (fails_bind _ (mux_at (with_word (codes "SG_MUL_VAL_") (left_at c.following-then-starts_word-5.result))) _
    c.in_err-mux.ensures)

pub returns-then-starts_word-5 : goal.returns-then-starts_word-5
returns-then-starts_word-5 c = rw (
  mux_alone (left_at c.args.at.now) (sym c.if-starts_word-5.ensures),
  ← c.following-then-starts_word-5.ensures,
  c.in_ok-mux.ensures,
) refl
