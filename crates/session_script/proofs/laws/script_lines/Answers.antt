use Rattle.session_script.proofs.Found.{found}
use Rattle.session_script.proofs.There.{there}
use Rattle.session_script.proofs.laws.script_lines.Goals as goal

-- src/laws.rt
pub returns : goal.returns
returns c = λ line command. (found line command, there line command)
