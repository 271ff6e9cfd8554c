use Rattle.session_laws.proofs.Meanings.{one_meaning}
use Rattle.session_laws.proofs.laws.one_meaning.Goals as goal

pub returns : goal.returns
returns c = one_meaning c.one_reading_alone.ensures c.script_lines.ensures
