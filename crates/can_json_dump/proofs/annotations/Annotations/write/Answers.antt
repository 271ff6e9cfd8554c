use Rattle.std.proofs.Common.{[], ◌∷◌, ◌++◌, ap, ◌∙◌, rules}
use Rattle.std.specs.Prelude.{codes}
use Rattle.can_json_texts.specs.Values.{tokens_of}
use Rattle.can_json_texts.proofs.Tokens.{members_then}
use Rattle.can_json_dump.specs.Subjects.{comment_of, attributes_of}
use Rattle.can_json_dump.specs.Messages.{comment_members, attributes_json}
use Rattle.can_json_dump.proofs.annotations.Annotations.write.Goals as goal

pub returns : goal.returns
returns c =
    let database = c.args.self.now in
    let subject = c.args.subject.now in
    members_then (comment_members (comment_of database subject))
    ((codes "attributes", attributes_json (attributes_of database subject)) ∷ [])
    c.args.text.now c.write_comment.new.text c.write_attributes_member.new.text
    c.in_ok-write_attributes_member.ensures
    (c.in_ok-write_comment.ensures
    ∙ ap (λ comment. c.args.text.now ++ tokens_of (comment_members comment)) (search rules))
