use Rattle.std.proofs.Common.{arith}
use Rattle.can_overlap.proofs.Words.{has-insert}
use Rattle.can_overlap.proofs.indexes.IndexSet.insert.Goals as goal

pub returns : goal.returns
returns c = λ other. has-insert c.args.self.now.words c.args.index other (omega arith)
