use Rattle.can_json_lines.proofs.Taken.{made_pushed}
use Rattle.can_json_lines.proofs.message_texts.signal_texts.Goals as goal

pub loop-index-preserved : goal.loop-index-preserved
loop-index-preserved g c =
    made_pushed (g.P.Prepare.signal_of c.args.message.now) c.args.plan.now.rows c.loop-index.index c.row.result.now
    c.in_ok-signal.field-0 c.loop-index.signals.items c.push.new.self.items c.in_ok-push.ensures.items c.loop-index.invariant
    c.in_ok-signal.ensures c.row.ensures
