use Rattle.dbc_records.specs.EntryKeys.{key_layout}
use Rattle.can_diagnostics.specs.Lines.{row_text}
use Rattle.can_diagnostics.proofs.row_line.send_row.Goals as goal

pub returns-in-Float : goal.returns-in-Float
unfolding row_text key_layout
returns-in-Float g c = rw (c.in-Float.is) c.send_signal_row-in-Float.ensures
