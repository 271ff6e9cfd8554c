use Rattle.std.proofs.Common.{rules}
use Rattle.can_json_texts.proofs.Digits.{pairs_pushed}
use Rattle.can_json_texts.proofs.hexadecimal.push_hexadecimal.Goals as goal

pub returns : goal.returns
returns c =
    pairs_pushed c.args.text.now.items c.push.new.self.items c.push_pairs.new.text.items c.push-2.new.self.items c.args.bytes.now
    (search rules) (search rules) (search rules)
