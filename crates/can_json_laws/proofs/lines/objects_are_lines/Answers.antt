use Rattle.can_json_laws.proofs.LineTexts.{objects_are_lines}
use Rattle.can_json_laws.proofs.lines.objects_are_lines.Goals as goal

pub returns : goal.returns
returns c = objects_are_lines c.log_lines.ensures.exactly
