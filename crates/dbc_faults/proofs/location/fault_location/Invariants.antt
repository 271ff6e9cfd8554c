use Rattle.dbc_reader.specs.inner.Readers.{size}
use Rattle.dbc_faults.specs.Patterns.{pattern_from}
use Rattle.dbc_faults.specs.FaultLocations.{Occurs}
use Rattle.dbc_faults.specs.Derivatives.{state_of, left_at}
use Rattle.dbc_faults.proofs.location.fault_location.Given as goal

abbrev pub invariant-tokens : goal.invariant-tokens
invariant-tokens l = Occurs (pattern_from l.fn.beginning) l.text l.spot.here.now (state_of l.derivative) (left_at l.spot)

abbrev pub decreases-tokens : goal.decreases-tokens
decreases-tokens l = size (left_at l.spot)
