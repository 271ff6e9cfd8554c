use Rattle.std.proofs.Common.{rules}
use Rattle.std.specs.Prelude.{codes}
use Rattle.can_json_texts.proofs.Keyed.{object_pushed}
use Rattle.can_json_lines.specs.Lines.{group_members}
use Rattle.can_json_lines.proofs.frame.push_j1939.Goals as goal

pub returns : goal.returns
returns c =
    object_pushed c.args.text.now.items c.push_to.new.text.items c.push_group.new.text.items (codes "j1939")
    (group_members c.args.identifier) (search rules) (search rules)
