use Rattle.can_json_texts.proofs.Tokens.{object_written}
use Rattle.can_json_dump.specs.Messages.{paired, signal_member}
use Rattle.can_json_dump.proofs.message.Messages.write_signals_object.Goals as goal

pub returns : goal.returns
returns g c =
    let message = c.args.planned.now.message in
    object_written (paired (signal_member c.args.self.now message) message.signals c.args.planned.now.plan.rows)
    c.args.text.now c.begin_object.new.self c.write_signals.new.text c.end_object.new.self
    c.in_ok-end_object.ensures c.in_ok-write_signals.ensures c.in_ok-begin_object.ensures
