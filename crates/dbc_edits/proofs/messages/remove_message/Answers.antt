use Rattle.std.proofs.Common.{rules, refl}
use Rattle.std.proofs.lemmas.Option.{slice_get_read}
use Rattle.dbc_edits.proofs.Clearing.{message_gone}
use Rattle.dbc_edits.proofs.messages.remove_message.Goals as goal

pub returns : goal.returns
returns c =
    message_gone c.args.index c.args.database.now c.in-Some.message.now _
    (slice_get_read c.args.database.now.messages _ c.args.index c.in-Some.message.now refl (search rules) (search rules))
    c.in_ok-edited.ensures
