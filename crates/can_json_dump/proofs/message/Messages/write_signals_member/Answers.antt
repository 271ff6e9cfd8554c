use Rattle.std.proofs.Common.{[], ◌∷◌, ◌++◌, None, Some}
use Rattle.std.specs.Prelude.{codes}
use Rattle.can_json_texts.specs.Members.{Member, object_of}
use Rattle.can_json_texts.specs.Records.{entries_json}
use Rattle.can_json_texts.proofs.Tokens.{members_then, member_written, object_written}
use Rattle.can_entries.specs.Rows.{rows_of, first_values, entries_of}
use Rattle.can_entries.specs.Groups.{group_of}
use Rattle.can_json_dump.specs.Subjects.{Subject}
use Rattle.can_json_dump.specs.Messages.{remark_members, plan_members, given_members, stated_members, placed_members, paired}
use Rattle.can_json_dump.specs.Messages.{signal_member, group_json, head_members, planned_members}
use Rattle.can_json_dump.proofs.message.Messages.write_signals_member.Goals as goal

pub returns : goal.returns
returns g c =
    let message = c.args.planned.now.message in
    member_written (codes "signals")
    (object_of (paired (signal_member c.args.self.now message) message.signals c.args.planned.now.plan.rows))
    c.args.text.now c.key.new.self c.write_signals_object.new.text
    c.in_ok-write_signals_object.ensures c.in_ok-key.ensures
