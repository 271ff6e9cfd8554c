use Rattle.std.proofs.Common.{rules}
use Rattle.can_json_lines.specs.Lines.{message_members, values_members}
use Rattle.can_json_lines.proofs.Given.{both_further}
use Rattle.can_json_lines.proofs.frame.push_given.Goals as goal

pub returns : goal.returns
returns c =
    both_further c.args.text.now.items c.push_message.new.text.items c.push_values.new.text.items
    (message_members c.args.frame.now c.args.target.now) (values_members c.args.frame.now c.args.target.now) (search rules)
    (search rules)
