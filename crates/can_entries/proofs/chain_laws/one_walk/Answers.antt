use Rattle.can_entries.proofs.WalkLaws.{found, there}
use Rattle.can_entries.proofs.chain_laws.one_walk.Goals as goal

pub returns : goal.returns
returns c = λ mux_parents index walk. (found mux_parents index walk, there mux_parents index walk)
