use Rattle.std.proofs.Common.{rules}
use Rattle.std.specs.Prelude.{codes}
use Rattle.can_json_texts.proofs.Keyed.{object_pushed}
use Rattle.can_json_lines.specs.Signals.{signal_members}
use Rattle.can_json_lines.proofs.frame.push_signals.Goals as goal

pub returns : goal.returns
returns c =
    object_pushed c.args.text.now.items c.push_to.new.text.items c.push_signal_object.new.text.items (codes "signals")
    (signal_members c.args.bytes.now c.args.target.now.plan) (search rules) (search rules)
