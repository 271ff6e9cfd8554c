use Rattle.can_frames.proofs.Pieces.{eight_fail, eight_read}
use Rattle.can_frames.proofs.pairs.bytes_of_eight.Goals as goal

pub returns-in_default : goal.returns-in_default
returns-in_default c = eight_fail c.args.digits.now c.told-digits c.in_default.ensures

pub returns : goal.returns
returns c = eight_read c.args.digits.now _ c.told-digits c.in-Some.ensures
