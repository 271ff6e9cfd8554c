use Rattle.std.proofs.Common.{◌+◌, ◌*◌, length}
use Rattle.dbc_faults.proofs.derivative.Derivative.+step.Given as goal

abbrev pub decreases-step : goal.decreases-step
decreases-step l = 2 * length l.self.now.left.items

abbrev pub decreases-step_from : goal.decreases-step_from
decreases-step_from l = 2 * length l.self.now.left.items + 1
