use Rattle.std.proofs.Common.{length}
use Rattle.workloads.proofs.digest.Digest.add.Given as goal

abbrev pub decreases-loop-self : goal.decreases-loop-self
decreases-loop-self l = length l.rest

abbrev pub decreases-loop-rest : goal.decreases-loop-rest
decreases-loop-rest l = length l.rest
