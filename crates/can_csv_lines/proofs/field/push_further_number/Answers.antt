use Rattle.std.proofs.Common.{arith, rules}
use Rattle.can_csv_lines.proofs.Plain.{decimal_field}
use Rattle.can_csv_lines.proofs.field.push_further_number.Goals as goal

pub returns : goal.returns
returns c =
    decimal_field c.args.text.now.items c.push.new.self.items c.push_number.new.text.items c.args.number
    (omega (arith, c.ranges.number.fits)) (search rules) (search rules)
