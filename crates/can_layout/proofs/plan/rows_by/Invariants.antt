use Rattle.std.proofs.Common.{◌≡◌, map, take}
use Rattle.std.specs.List.{enumerate_from}
use Rattle.can_layout.specs.Layouts.{row_by}
use Rattle.can_layout.proofs.plan.rows_by.Given as goal

-- a row for each signal so far
abbrev pub invariant-loop-index : goal.invariant-loop-index
invariant-loop-index g l = l.made ≡ map (λ placed. row_by l.rows l.mux_parents.value placed.0 placed.1)
    (take l.index (enumerate_from 0 l.signals))
