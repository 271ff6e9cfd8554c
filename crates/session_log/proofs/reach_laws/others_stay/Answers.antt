use Rattle.session_log.proofs.Edits.{others}
use Rattle.session_log.proofs.reach_laws.others_stay.Goals as goal

pub returns : goal.returns
returns c = λ before after edit ok. others before after edit ok
