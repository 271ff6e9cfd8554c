use Rattle.can_json_laws.proofs.Parsed.{keys_are_unique}
use Rattle.can_json_laws.proofs.lines.keys_are_unique.Goals as goal

pub returns : goal.returns
returns c = keys_are_unique c.log_lines.ensures.exactly
