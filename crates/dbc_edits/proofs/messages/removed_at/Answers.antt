use Rattle.dbc_edits.proofs.Clearing.{number_cleared}
use Rattle.dbc_edits.proofs.messages.removed_at.Goals as goal

pub returns : goal.returns
returns c =
    number_cleared c.args.index _ c.args.message.now c.args.database.now c.in_ok-edited.edited _ c.remove_at.ensures
    c.number_of-number.ensures c.in_ok-edited.ensures
