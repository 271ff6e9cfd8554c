use Rattle.std.proofs.Common.{rules}
use Rattle.std.specs.Prelude.{codes}
use Rattle.json.specs.Json.{string}
use Rattle.can_json_lines.specs.Lines.{number_member}
use Rattle.can_json_lines.proofs.Labels.{two_further}
use Rattle.can_json_lines.proofs.plan_texts.push_message.Goals as goal

pub returns : goal.returns
returns c =
    two_further c.args.text.now.items c.push_quoted.new.text.items c.push_digits.new.text.items
    (codes "message", string c.args.message.now.head.name) (number_member (codes "number") c.args.message.now.head.number)
    (search rules) (search rules)
