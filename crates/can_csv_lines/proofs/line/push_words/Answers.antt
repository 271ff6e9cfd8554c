use Rattle.std.proofs.Common.{rules}
use Rattle.std.specs.Prelude.{decimal}
use Rattle.can_json_texts.specs.Texts.{text_of}
use Rattle.can_csv_lines.proofs.Rows.{came_pushed}
use Rattle.can_csv_lines.proofs.line.push_words.Goals as goal

pub returns : goal.returns
returns c =
    came_pushed c.args.text.now.items c.push_field.new.text.items c.push_further_text.new.text.items
    c.push_further_number.new.text.items c.args.time.now (text_of c.args.interface.now) (decimal c.args.identifier) (search rules)
    (search rules) (search rules)
