use Rattle.std.proofs.Common.{◌≡◌, take}
use Rattle.can_overlap.proofs.mux_paths.same_ranges.Given as goal

-- the links before this index are the same
abbrev pub invariant-loop-index : goal.invariant-loop-index
invariant-loop-index l = take l.index l.these ≡ take l.index l.those
