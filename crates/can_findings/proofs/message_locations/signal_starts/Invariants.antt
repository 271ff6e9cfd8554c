use Rattle.std.proofs.Common.{◌≡◌, ◌++◌, map, length}
use Rattle.can_findings.specs.RowStarts.{key_start, key_starts}
use Rattle.can_findings.specs.MessageLocations.{signal_starts}
use Rattle.can_findings.proofs.message_locations.signal_starts.Given as goal

-- what is left is put after what was made
abbrev pub invariant-signals : goal.invariant-signals
invariant-signals l =
    map key_start l.made.items ++ key_starts (λ _. 0) (λ signal. signal.name) l.left l.further
    ≡ signal_starts l.signals l.starts

abbrev pub decreases-signals : goal.decreases-signals
decreases-signals l = length l.left
