use Rattle.std.proofs.Common.{slice_index, arith}
use Rattle.can_bits.proofs.Masks.{moved_up, moved_down, mask_stays}
use Rattle.can_bits.proofs.step.Step.of_run.Goals as goal

pub returns-then-low-weight-clause-takes : goal.returns-then-low-weight-clause-takes
returns-then-low-weight-clause-takes c =
    λ bytes. rw c.mask_of-mask.ensures (moved_up (slice_index bytes c.args.byte) c.args.low c.args.run c.args.weight
    c.if-low-weight.true)

pub returns-then-low-weight-clause-valid : goal.returns-then-low-weight-clause-valid
returns-then-low-weight-clause-valid c = (
  omega (arith, c.requires.top, c.requires.some),
  rw c.mask_of-mask.ensures (mask_stays c.args.low c.args.run c.args.weight
      c.if-low-weight.true c.requires.top c.requires.some),
)

pub returns-else-low-weight-clause-takes : goal.returns-else-low-weight-clause-takes
returns-else-low-weight-clause-takes c =
    λ bytes. rw c.mask_of-mask.ensures (moved_down (slice_index bytes c.args.byte) c.args.low c.args.run c.args.weight
    c.if-low-weight.false)
