use Rattle.std.proofs.Common.{◌≡◌, ℕ, List, [], sym, arith}
use Rattle.std.specs.Prelude.{Some, None, slice_get}
use Rattle.std.proofs.lemmas.Option.{get_or_from_slice_get, slice_get-get_or}
use Rattle.std.proofs.lemmas.Result.{MatchResult-from_err}
use Rattle.dbc_records.specs.Layout.{layout_text}
use Rattle.dbc_records.specs.CanonicalText.{piece_layout}
use Rattle.byte_devices.proofs.Outs.{Lost-item, Took-item}
use Rattle.dbc_model.proofs.printing.rows.send_tokens.Goals as goal
use Rattle.dbc_model.proofs.printing.rows.send_tokens.Goals.{in-Some+in_ok-send_piece, in_default}

text : List ℕ → List ℕ
text piece = layout_text (piece_layout piece)

pub returns-in_err-send_piece : goal.returns-in_err-send_piece
unfolding text
returns-in_err-send_piece g c =
    let tokens = c.args.tokens.now in
    let index = c.loop-index.index in
    let is : slice_get tokens index ≡ Some c.in-Some.piece.now = sym c.in-Some.ensures.value in
    MatchResult-from_err c.from_residual.result _ _ c.from_residual.ensures.0
    (λ _. Lost-item g.W.Sink.written text tokens index c.in-Some.piece.now [] _ _ _ (omega (arith, c.loop-index-test.true))
    (sym (get_or_from_slice_get tokens index c.in-Some.piece.now [] is)) c.loop-index.invariant c.in_err-send_piece.ensures)

pub loop-index-preserved : goal.loop-index-preserved
unfolding text
loop-index-preserved g c =
    let tokens = c.args.tokens.now in
    let index = c.loop-index.index in
    elim c.match-get.branch [
      | in-Some+in_ok-send_piece w ↦
          let is : slice_get tokens index ≡ Some w.in-Some.piece.now = sym w.in-Some.ensures.value in
          rw (w.out-is) (Took-item g.W.Sink.written text tokens index w.in-Some.piece.now [] _ _ _
          (omega (arith, c.loop-index-test.true)) (sym (get_or_from_slice_get tokens index w.in-Some.piece.now [] is))
          c.loop-index.invariant w.in_ok-send_piece.ensures)
      | in_default w ↦
          let none : None ≡ slice_get tokens index = rw w.in_default.is at c.get.ensures.value in
          let some = slice_get-get_or tokens index [] (omega (arith, c.loop-index-test.true)) in
          absurd (cc (none, some))
    ]
