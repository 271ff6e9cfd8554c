use Rattle.can_json_lines.proofs.frame.push_data_stated.Goals as goal

pub returns-in-None : goal.returns-in-None
returns-in-None c = rw c.in-None.is c.push_cause.ensures
