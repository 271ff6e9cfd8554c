use Rattle.dbc_reader.proofs.Sound.Matched.{have_starts}
use Rattle.dbc_reader.proofs.laws.all_have_starts.Goals as goal

pub returns : goal.returns
returns c = λ tokens database starts is. have_starts tokens database starts is
