use Rattle.std.proofs.Common.{◌≡◌, take}
use Rattle.std.specs.List.{sum_by}
use Rattle.can_bits.specs.Steps.{part_of}
use Rattle.can_bits.proofs.steps.Steps.raw_by_steps.Given as goal

abbrev pub invariant-loop-step : goal.invariant-loop-step
invariant-loop-step l = l.raw ≡ sum_by (part_of l.bytes) (take l.step-index l.step-items)
