use Rattle.dbc_edits.proofs.Clearing.{signal_cleared}
use Rattle.dbc_edits.proofs.signals.removed_at.Goals as goal

pub returns : goal.returns
returns c =
    signal_cleared c.args.index _ c.args.name.now c.args.message.now c.in_ok-other.other c.args.database.now c.in_ok-edited.edited _
    c.clear_signal.ensures c.number_of-number.ensures c.in_ok-edited.ensures c.in_ok-other.ensures
