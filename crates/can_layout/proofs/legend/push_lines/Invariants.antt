use Rattle.std.proofs.Common.{◌≡◌, ◌++◌, take}
use Rattle.std.specs.List.{flat_map, enumerate_from}
use Rattle.can_layout.specs.Layouts.{legend_by}
use Rattle.can_layout.proofs.legend.push_lines.Given as goal

-- a line for each signal so far
abbrev pub invariant-loop-index : goal.invariant-loop-index
invariant-loop-index l =
    l.text.items
    ≡ l.initial.text.items
    ++ flat_map (λ placed. legend_by l.signals l.mux_parents placed.0 placed.1) (take l.index (enumerate_from 0 l.layouts))
