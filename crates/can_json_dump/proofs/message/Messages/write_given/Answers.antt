use Rattle.std.proofs.Common.{List, [], ◌∷◌, ◌++◌, None, Some}
use Rattle.std.specs.Prelude.{codes}
use Rattle.can_json_texts.specs.Members.{Member, object_of}
use Rattle.can_json_texts.specs.Records.{entries_json}
use Rattle.can_json_texts.proofs.Tokens.{members_then, member_written, object_written}
use Rattle.can_entries.specs.Rows.{rows_of, first_values, entries_of}
use Rattle.can_entries.specs.Groups.{group_of}
use Rattle.can_json_dump.specs.Subjects.{Subject}
use Rattle.can_json_dump.specs.Messages.{remark_members, plan_members, given_members, stated_members, placed_members, paired}
use Rattle.can_json_dump.specs.Messages.{signal_member, group_json, head_members, planned_members}
use Rattle.can_json_dump.proofs.message.Messages.write_given.Goals as goal

pub returns : goal.returns
returns g c =
    let database = c.args.self.now in
    let number = c.args.number in
    let name = c.args.name.now in
    let values : List Member = (codes "values", entries_json (entries_of (first_values name (rows_of number database)))) ∷ [] in
    members_then values (remark_members database (record { number = number; signal = Some name }))
    c.args.text.now c.write_values.new.text c.write_remarks.new.text
    c.in_ok-write_remarks.ensures c.in_ok-write_values.ensures
