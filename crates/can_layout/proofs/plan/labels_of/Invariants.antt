use Rattle.std.proofs.Common.{◌≡◌, map, take}
use Rattle.can_layout.specs.Plans.{label_of}
use Rattle.can_layout.proofs.plan.labels_of.Given as goal

-- the labels so far
abbrev pub invariant-loop-row : goal.invariant-loop-row
invariant-loop-row l = l.labels.items ≡ map label_of (take l.row-index l.rows)
