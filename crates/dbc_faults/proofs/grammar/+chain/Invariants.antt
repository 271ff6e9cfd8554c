use Rattle.std.proofs.Common.{length}
use Rattle.dbc_faults.proofs.grammar.+chain.Given as goal

abbrev pub decreases-chain : goal.decreases-chain
decreases-chain l = length l.classes.now
