use Rattle.session_laws.proofs.Lines.{lines_join as joined}
use Rattle.session_laws.proofs.laws.lines_join.Goals as goal

pub returns : goal.returns
returns c = joined
