use Rattle.can_layout.proofs.SwitchBits.{known_more}
use Rattle.can_layout.proofs.presence.look_for.Goals as goal

pub returns-then-index-signals-clause-known : goal.returns-then-index-signals-clause-known
returns-then-index-signals-clause-known c =
    known_more c.args.bytes.now c.args.plan.now.rows c.args.known.now c.args.index c.present_by-there.result c.requires.known
    c.present_by-there.ensures.there
