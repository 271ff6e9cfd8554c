use Rattle.std.proofs.lemmas.Result.{MatchResult-from_err}
use Rattle.dbc_records.specs.Layout.{layout_text}
use Rattle.byte_devices.proofs.Outs.{Lost-item, Took-item}
use Rattle.dbc_model.proofs.printing.style.send_texts.Goals as goal

pub returns-in_err-send_item : goal.returns-in_err-send_item
returns-in_err-send_item g c =
    MatchResult-from_err c.from_residual.result _ _ c.from_residual.ensures.0
    (λ _. Lost-item g.W.Sink.written (λ item. layout_text (g.S.Style.layout item)) c.args.items.now c.loop-item.item-index _ _ _ _ _
    c.loop-item-test.true c.item-item.is c.loop-item.invariant c.in_err-send_item.ensures)

pub loop-item-preserved : goal.loop-item-preserved
loop-item-preserved g c =
    Took-item g.W.Sink.written (λ item. layout_text (g.S.Style.layout item)) c.args.items.now c.loop-item.item-index _ _ _ _ _
    c.loop-item-test.true c.item-item.is c.loop-item.invariant c.in_ok-send_item.ensures
