use Rattle.std.proofs.Common.{rules}
use Rattle.std.specs.Prelude.{decimal}
use Rattle.can_json_texts.proofs.Keyed.{number_pushed}
use Rattle.can_json_lines.proofs.frame.push_number_member.Goals as goal

pub returns : goal.returns
returns c =
    number_pushed c.args.text.now.items c.push_to.new.text.items c.push_number.new.text.items c.args.key.now (decimal c.args.n)
    (search rules) (search rules)
