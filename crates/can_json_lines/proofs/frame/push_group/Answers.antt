use Rattle.std.proofs.Common.{rules, ◌∷◌}
use Rattle.std.specs.Prelude.{codes}
use Rattle.can_entries.specs.Groups.{group_number_of, priority_of, source_of}
use Rattle.can_json_lines.specs.Lines.{number_member, destination_members}
use Rattle.can_json_lines.proofs.Given.{object_pushed}
use Rattle.can_json_lines.proofs.frame.push_group.Goals as goal

pub returns : goal.returns
returns c =
    let identifier = c.args.identifier in
    object_pushed c.args.text.now.items c.push_number_member.new.text.items c.push_addresses.new.text.items c.push.new.self.items
    (number_member (codes "pgn") (group_number_of identifier))
    (number_member (codes "priority") (priority_of identifier) ∷ number_member (codes "source") (source_of identifier)
    ∷ destination_members identifier) (search rules) (search rules) (search rules)
