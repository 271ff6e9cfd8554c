use Rattle.std.proofs.Common.{rules}
use Rattle.can_json_texts.proofs.Keyed.{texts_pushed}
use Rattle.can_json_texts.proofs.key.Key.push_texts.Goals as goal

pub returns : goal.returns
returns c =
    texts_pushed c.args.text.now.items c.push_to.new.text.items c.push_texts.new.text.items c.args.self.now c.args.bytes.now
    (search rules) (search rules)
