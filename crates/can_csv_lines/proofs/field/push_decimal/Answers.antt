use Rattle.std.proofs.Common.{arith, rules}
use Rattle.std.proofs.lemmas.Grind.{common_steps}
use Rattle.can_csv_lines.proofs.Plain.{scaled_field}
use Rattle.can_csv_lines.proofs.field.push_decimal.Goals as goal

pub returns : goal.returns
returns c =
    scaled_field c.args.text.now.items c.push_scaled.new.text.items c.args.value c.args.places
    (grind (arith, common_steps, c.ranges.value)) (search rules)
