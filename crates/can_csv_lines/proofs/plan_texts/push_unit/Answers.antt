use Rattle.std.proofs.Common.{rules}
use Rattle.can_json_texts.specs.Texts.{text_of}
use Rattle.can_csv_lines.proofs.Fields.{one_empty}
use Rattle.can_csv_lines.proofs.plan_texts.push_unit.Goals as goal

pub returns : goal.returns
returns c =
    one_empty c.args.text.now.items c.push_further_text.new.text.items c.push_piece.new.self.items (text_of c.args.unit.now)
    (search rules) (search rules)
