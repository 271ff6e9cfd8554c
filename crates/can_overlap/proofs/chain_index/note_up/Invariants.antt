use Rattle.std.proofs.Common.{◌≡◌}
use Rattle.can_overlap.specs.inner.MuxPaths.{goes_at, AreNoted}
use Rattle.can_overlap.proofs.chain_index.note_up.Given as goal

-- what is noted is so, and what was found at first holds here too
abbrev pub invariant-loop-passed : goal.invariant-loop-passed
invariant-loop-passed l = AreNoted l.indexed l.noted × (l.goes ≡ goes_at l.indexed.links l.indexed.walks l.current)
