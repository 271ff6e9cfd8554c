use Rattle.std.proofs.Common.{rules}
use Rattle.can_json_lines.proofs.Labels.{signals_pushed}
use Rattle.can_json_lines.proofs.signals.push_signal_object.Goals as goal

pub returns : goal.returns
returns c =
    signals_pushed c.args.text.now.items c.push.new.self.items c.push_signals.new.text.items c.push-2.new.self.items
    c.args.bytes.now
    c.args.target.now.plan (search rules) (search rules) (search rules)
