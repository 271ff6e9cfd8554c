use Rattle.can_json_lines.specs.PreparedTexts.{all_texts}
use Rattle.can_json_lines.proofs.Taken.{item_pushed}
use Rattle.can_json_lines.proofs.prepared.texts_of_all.Goals as goal

pub loop-index-preserved : goal.loop-index-preserved
loop-index-preserved g c =
    item_pushed (all_texts g.P.Prepare.head_of g.P.Prepare.signal_of c.args.decoding.now.database) c.loop-index.index
    c.in_ok-message_texts.field-0 c.loop-index.texts.items c.push.new.self.items c.in_ok-push.ensures.items
    c.loop-index.invariant c.in_ok-message_texts.ensures
