use Rattle.can_decode.proofs.FrameNumbers.{good_number}
use Rattle.can_decode.proofs.laws.frame_numbers.Goals as goal

pub returns : goal.returns
returns c = good_number
