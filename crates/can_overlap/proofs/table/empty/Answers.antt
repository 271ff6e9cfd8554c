use Rattle.can_overlap.proofs.Words.{has-none_there}
use Rattle.can_overlap.proofs.table.empty.Goals as goal

pub returns : goal.returns
returns c = rw c.new.ensures.items (λ position index. has-none_there index)
