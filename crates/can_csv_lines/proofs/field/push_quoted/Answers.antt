use Rattle.std.proofs.Common.{rules}
use Rattle.can_csv_lines.proofs.Fields.{quoted_pushed}
use Rattle.can_csv_lines.proofs.field.push_quoted.Goals as goal

pub returns : goal.returns
returns c =
    quoted_pushed c.args.text.now.items c.push.new.self.items c.push_all_doubled.new.text.items c.push-2.new.self.items
    c.args.field.now (search rules) (search rules) (search rules)
