use Rattle.std.proofs.Common.{◌≡◌, take}
use Rattle.can_overlap.proofs.mux_paths.are_same.Given as goal

-- the links before this place are the same
abbrev pub invariant-loop-place : goal.invariant-loop-place
invariant-loop-place l = take l.place l.these ≡ take l.place l.those
