use Rattle.can_bits.proofs.Masks.{mask_is}
use Rattle.can_bits.proofs.step.mask_of.Goals as goal

pub returns : goal.returns
returns c = mask_is c.args.low c.args.run c.requires.within
