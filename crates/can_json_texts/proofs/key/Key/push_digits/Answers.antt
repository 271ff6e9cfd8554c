use Rattle.std.proofs.Common.{rules}
use Rattle.can_json_texts.proofs.Keyed.{number_pushed}
use Rattle.can_json_texts.proofs.key.Key.push_digits.Goals as goal

pub returns : goal.returns
returns c =
    number_pushed c.args.text.now.items c.push_to.new.text.items c.push_bytes.new.text.items c.args.self.now c.args.digits.now
    (search rules) (search rules)
