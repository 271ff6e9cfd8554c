use Rattle.std.proofs.Common.{◌≡◌}
use Rattle.can_overlap.specs.inner.MuxPaths.{goes_at}
use Rattle.can_overlap.proofs.chain_index.goes_up.Given as goal

-- what is found from here on decides it
abbrev pub invariant-loop-passed : goal.invariant-loop-passed
invariant-loop-passed l = goes_at l.indexed.links l.indexed.walks l.index ≡ goes_at l.indexed.links l.indexed.walks l.current
