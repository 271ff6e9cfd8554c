use Rattle.std.proofs.Common.{arith, ⊎_elim}
use Rattle.std.proofs.lemmas.Bool.{cases_lt}
use Rattle.can_overlap.proofs.Words.{has-none, has-first, has-before}
use Rattle.can_overlap.proofs.indexes.IndexSet.next_from.Goals as goal

pub returns-then-rest-ne0-clause-none_between : goal.returns-then-rest-ne0-clause-none_between
returns-then-rest-ne0-clause-none_between c = λ index low high.
    ⊎_elim (λ h. c.loop-index.invariant.none_between index low h)
    (λ h. has-before c.args.self.now.words c.loop-index.index index (omega arith) (omega arith) h high)
    (cases_lt index c.loop-index.index)

pub returns-then-rest-ne0-clause-found : goal.returns-then-rest-ne0-clause-found
returns-then-rest-ne0-clause-found c = λ _. has-first c.args.self.now.words c.loop-index.index (omega arith) (omega arith)

pub loop-index-preserved : goal.loop-index-preserved
loop-index-preserved c = record {
  forward = omega arith;
  within = omega arith;
  none_between = λ index low high.
      ⊎_elim (λ h. c.loop-index.invariant.none_between index low h)
      (λ h. has-none c.args.self.now.words c.loop-index.index index (omega arith) h high)
      (cases_lt index c.loop-index.index);
}
