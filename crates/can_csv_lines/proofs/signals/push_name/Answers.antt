use Rattle.std.proofs.Common.{rules}
use Rattle.can_json_texts.specs.Texts.{text_of}
use Rattle.can_csv_lines.proofs.Fields.{empty_first}
use Rattle.can_csv_lines.proofs.signals.push_name.Goals as goal

pub returns : goal.returns
returns c =
    empty_first c.args.text.now.items c.push.new.self.items c.push_further_text.new.text.items c.push-2.new.self.items
    (text_of c.args.name.now) (search rules) (search rules) (search rules)
