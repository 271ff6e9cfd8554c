use Rattle.std.specs.Prelude.{codes}
use Rattle.can_json_texts.proofs.Tokens.{member_written}
use Rattle.can_json_dump.specs.Subjects.{attributes_of}
use Rattle.can_json_dump.specs.Messages.{attributes_json}
use Rattle.can_json_dump.proofs.annotations.Annotations.write_attributes_member.Goals as goal

pub returns : goal.returns
returns c =
    member_written (codes "attributes") (attributes_json (attributes_of c.args.self.now c.args.subject.now))
    c.args.text.now c.key.new.self c.write_attributes.new.text
    c.in_ok-write_attributes.ensures c.in_ok-key.ensures
