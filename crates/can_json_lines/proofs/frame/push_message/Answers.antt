use Rattle.std.proofs.Common.{rules, ◌∷◌, []}
use Rattle.std.specs.Prelude.{codes}
use Rattle.json.specs.Json.{string}
use Rattle.can_json_lines.specs.Lines.{number_member, j1939_members}
use Rattle.can_json_lines.proofs.Given.{both_further}
use Rattle.can_json_lines.proofs.frame.push_message.Goals as goal

pub returns : goal.returns
returns c =
    let head = c.args.target.now.message.head in
    both_further c.args.text.now.items c.push_to.new.text.items c.push_j1939_if.new.text.items
    ((codes "message", string head.name) ∷ number_member (codes "number") head.number ∷ [])
    (j1939_members c.args.frame.now.identifier c.args.target.now.group) (search rules) (search rules)
