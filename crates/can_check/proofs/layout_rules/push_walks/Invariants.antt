use Rattle.std.proofs.Common.{◌≡◌, ◌++◌, take, slice_get}
use Rattle.std.specs.List.{flat_map, enumerate_from}
use Rattle.can_diagnostics.specs.Diagnostics.{of_signal}
use Rattle.can_references.specs.Finding.{where_true}
use Rattle.can_check.specs.MessageFaults.{walk_passes}
use Rattle.can_check.proofs.layout_rules.push_walks.Given as goal

-- the signals so far
abbrev pub invariant-loop-index : goal.invariant-loop-index
invariant-loop-index g l =
    l.found.items
    ≡ l.initial.found.items
    ++ flat_map (λ placed. where_true (walk_passes (g.T.WalkTest.passes l.test) (slice_get l.walks placed.0))
    (of_signal l.code l.head placed.1)) (take l.index (enumerate_from 0 l.signals))
