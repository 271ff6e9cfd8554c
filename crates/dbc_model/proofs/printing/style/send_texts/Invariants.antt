use Rattle.std.proofs.Common.{take}
use Rattle.std.specs.List.{flat_map}
use Rattle.byte_devices.specs.Outs.{Took}
use Rattle.dbc_records.specs.Layout.{layout_text}
use Rattle.dbc_model.proofs.printing.style.send_texts.Given as goal

abbrev pub invariant-loop-item : goal.invariant-loop-item
invariant-loop-item g l =
    Took g.W.Sink.written l.initial.out l.out (flat_map (λ item. layout_text (g.S.Style.layout item)) (take l.item-index l.items))
