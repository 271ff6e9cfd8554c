use Rattle.std.proofs.Common.{◌≡◌, ◌++◌, take}
use Rattle.std.specs.List.{flat_map}
use Rattle.can_layout.specs.Diagrams.{further_range}
use Rattle.can_layout.proofs.text.push_all_further.Given as goal

-- the ranges so far are appended
abbrev pub invariant-loop-range : goal.invariant-loop-range
invariant-loop-range l = l.text.items ≡ l.initial.text.items ++ flat_map further_range (take l.range-index l.ranges)
