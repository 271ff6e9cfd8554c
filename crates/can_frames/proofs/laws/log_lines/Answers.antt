use Rattle.can_frames.proofs.Grammar.{found, there, same_frame}
use Rattle.can_frames.proofs.laws.log_lines.Goals as goal

pub returns : goal.returns
returns c = record { exactly = λ body frame. (found body frame, there body frame); unique = same_frame }
