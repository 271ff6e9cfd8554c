use Rattle.std.proofs.Common.{rules}
use Rattle.can_json_texts.proofs.Keyed.{flag_pushed}
use Rattle.can_json_lines.proofs.flags.push_flag_member.Goals as goal

pub returns : goal.returns
returns c =
    flag_pushed c.args.text.now.items c.push_to.new.text.items c.push_flag.new.text.items c.args.key.now c.args.flag (search rules)
    (search rules)
