use Rattle.std.proofs.Common.{sym}
use Rattle.std.proofs.lemmas.Result.{err_from_is_err_and}
use Rattle.dbc_tokens.specs.Views.{token_of}
use Rattle.dbc_reader.specs.inner.Cursors.{left_at}
use Rattle.dbc_reader.proofs.Rounds.Lists.{taken_fails, taken_on}
use Rattle.dbc_reader.proofs.parts.pieces.Goals as goal

pub returns-in_err-token : goal.returns-in_err-token
returns-in_err-token c =
    let p = err_from_is_err_and c.from_residual.result c.from_residual.ensures.1 in
    rw (p.1, p.2) (taken_fails _ c.pieces.pieces (left_at c.pieces.at) _ (sym c.pieces-test.ensures) c.in_err-token.ensures
    c.pieces.invariant)

pub pieces-preserved : goal.pieces-preserved
pieces-preserved c =
    taken_on c.pieces.pieces c.push.new.self (token_of c.in_ok-token.token) (left_at c.pieces.at) (left_at c.take.new.self) _
    (sym c.pieces-test.ensures) c.in_ok-token.ensures c.in_ok-push.ensures.ok c.pieces.invariant
