use Rattle.std.proofs.Common.{rules}
use Rattle.hex.specs.Hex.{encode_upper}
use Rattle.can_json_texts.proofs.Keyed.{string_pushed}
use Rattle.can_json_texts.proofs.key.Key.push_hexadecimal.Goals as goal

pub returns : goal.returns
returns c =
    string_pushed c.args.text.now.items c.push_to.new.text.items c.push_hexadecimal.new.text.items c.args.self.now
    (encode_upper c.args.bytes.now)
    (search rules) (search rules)
