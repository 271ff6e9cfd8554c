use Rattle.std.proofs.Common.{◌≡◌, map, take}
use Rattle.can_layout.specs.Layouts.{layout_of}
use Rattle.can_layout.proofs.layout.signals_of.Given as goal

-- those of the signals so far
abbrev pub invariant-loop-signal : goal.invariant-loop-signal
invariant-loop-signal g l = l.all.items ≡ map (layout_of l.rows l.size) (take l.signal-index l.signals)
