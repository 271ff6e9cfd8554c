use Rattle.can_overlap.proofs.Words.{has-zeros}
use Rattle.can_overlap.proofs.indexes.IndexSet.new.Goals as goal

pub returns : goal.returns
returns c = λ index. has-zeros index
