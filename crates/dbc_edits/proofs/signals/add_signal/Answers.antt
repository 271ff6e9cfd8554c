use Rattle.std.proofs.Common.{rules, refl}
use Rattle.std.proofs.lemmas.Option.{slice_get_read}
use Rattle.dbc_edits.proofs.Adding.{added}
use Rattle.dbc_edits.proofs.signals.add_signal.Goals as goal

pub returns : goal.returns
returns c =
    added c.args.index c.args.at c.args.signal.now c.args.database.now c.in-Some.message.now _
    (slice_get_read c.args.database.now.messages _ c.args.index c.in-Some.message.now refl (search rules) (search rules))
    (search rules) (search rules) (search rules) (search rules)
