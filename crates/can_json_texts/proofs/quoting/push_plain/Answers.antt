use Rattle.std.proofs.Common.{rules}
use Rattle.can_json_texts.proofs.Plain.{plain_quoted}
use Rattle.can_json_texts.proofs.quoting.push_plain.Goals as goal

pub returns : goal.returns
returns c =
    plain_quoted c.args.text.now.items c.push.new.self.items c.push_bytes.new.text.items c.push-2.new.self.items c.args.bytes.now
    (search rules) (search rules) (search rules) (search rules)
