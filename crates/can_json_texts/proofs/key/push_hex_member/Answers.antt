use Rattle.std.proofs.Common.{rules}
use Rattle.hex.specs.Hex.{encode_upper}
use Rattle.can_json_texts.specs.Members.{hex_key}
use Rattle.can_json_texts.proofs.Keyed.{one_further}
use Rattle.can_json_texts.proofs.key.push_hex_member.Goals as goal

pub returns : goal.returns
returns c =
    one_further c.args.text.now.items c.push_key.new.text.items c.push_hexadecimal.new.text.items (hex_key c.args.name.now)
    (encode_upper c.args.bytes.now) (search rules) (search rules)
