use Rattle.std.proofs.Common.{List, [], ◌∷◌, ◌++◌, None, Some}
use Rattle.std.specs.Prelude.{codes}
use Rattle.can_json_texts.specs.Members.{Member, object_of}
use Rattle.can_json_texts.specs.Records.{entries_json}
use Rattle.can_json_texts.proofs.Tokens.{members_then, member_written, object_written}
use Rattle.can_entries.specs.Rows.{rows_of, first_values, entries_of}
use Rattle.can_entries.specs.Groups.{group_of}
use Rattle.can_json_dump.specs.Subjects.{Subject}
use Rattle.can_json_dump.specs.Messages.{remark_members, plan_members, given_members, stated_members, placed_members, paired}
use Rattle.can_json_dump.specs.Messages.{signal_member, group_json, head_members, planned_members}
use Rattle.can_json_dump.proofs.message.Messages.write_members.Goals as goal

pub returns : goal.returns
returns g c =
    let message = c.args.planned.now.message in
    let subject : Subject = record { number = message.head.number; signal = None } in
    let all : List Member = paired (signal_member c.args.self.now message) message.signals c.args.planned.now.plan.rows in
    let signals : List Member = (codes "signals", object_of all) ∷ [] in
    let given = remark_members c.args.self.now subject in
    let group : List Member = (codes "pgn", group_json (group_of message.head.number c.args.self.now)) ∷ [] in
    members_then (head_members message.head) (group ++ (given ++ signals))
    c.args.text.now c.write_planned_head.new.text c.write_after_head.new.text
    c.in_ok-write_after_head.ensures c.in_ok-write_planned_head.ensures
