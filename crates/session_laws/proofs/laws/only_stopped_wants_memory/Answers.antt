use Rattle.session_laws.proofs.Memory.{only_stopped}
use Rattle.session_laws.proofs.laws.only_stopped_wants_memory.Goals as goal

pub returns : goal.returns
returns c = only_stopped
