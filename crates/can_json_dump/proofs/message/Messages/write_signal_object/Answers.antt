use Rattle.can_json_texts.proofs.Tokens.{object_written}
use Rattle.can_json_dump.specs.Messages.{placed_members}
use Rattle.can_json_dump.proofs.message.Messages.write_signal_object.Goals as goal

pub returns : goal.returns
returns g c =
    object_written (placed_members c.args.self.now c.args.placed.now)
    c.args.text.now c.begin_object.new.self c.write_signal_members.new.text c.end_object.new.self
    c.in_ok-end_object.ensures c.in_ok-write_signal_members.ensures c.in_ok-begin_object.ensures
