use Rattle.std.proofs.Common.{take}
use Rattle.std.specs.List.{flat_map}
use Rattle.byte_devices.specs.Outs.{Took}
use Rattle.dbc_records.specs.Layout.{layout_text}
use Rattle.dbc_records.specs.CanonicalText.{piece_layout}
use Rattle.dbc_model.proofs.printing.rows.send_tokens.Given as goal

abbrev pub invariant-loop-index : goal.invariant-loop-index
invariant-loop-index g l =
    Took g.W.Sink.written l.initial.out l.out (flat_map (λ piece. layout_text (piece_layout piece)) (take l.index l.tokens))
