use Rattle.std.specs.Prelude.{codes}
use Rattle.dbc_records.specs.CanonicalText.{word_layout, signal_key, float_key}
use Rattle.dbc_model.proofs.Layouts.{Sends-then}
use Rattle.dbc_model.proofs.printing.rows.send_float_key.Goals as goal

pub returns : goal.returns
unfolding float_key
returns g c =
    let row = c.row.inside in
    rw (← c.row.view_is) (Sends-then _ _ _ _ c.send_signal_key.result (word_layout (codes "SIG_VALTYPE_"))
    (signal_key row.number row.signal) c.in_ok-send_word.ensures c.send_signal_key.ensures)
