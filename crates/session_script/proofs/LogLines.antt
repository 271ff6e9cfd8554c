-- What a line asks for that begins with `log` and a blank.
use Rattle.std.proofs.Common.{◌≡◌, ℕ, List, ◌∷◌, refl}
use Rattle.std.specs.Prelude.{Some}
use Rattle.can_frames.specs.LogLines.{body_of}
use Rattle.session_script.specs.Words.{verb_of}
use Rattle.session_script.specs.Commands.{Means, Log}

-- (108, 111, 103 and 32 are `log `)
pub means_log : (line text : List ℕ) → body_of line ≡ 108 ∷ 111 ∷ 103 ∷ 32 ∷ text → Means line (Some (Log text))
unfolding Means verb_of
means_log line text is = rw is refl
