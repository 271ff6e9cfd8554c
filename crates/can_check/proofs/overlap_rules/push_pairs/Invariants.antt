use Rattle.std.proofs.Common.{◌≡◌, ◌++◌, take}
use Rattle.std.specs.List.{flat_map}
use Rattle.can_check.specs.MessageFaults.{pair_at}
use Rattle.can_check.proofs.overlap_rules.push_pairs.Given as goal

-- the pairs so far
abbrev pub invariant-loop-pair : goal.invariant-loop-pair
invariant-loop-pair l = l.found.items ≡ l.initial.found.items ++ flat_map (pair_at l.message) (take l.pair-index l.pairs)
