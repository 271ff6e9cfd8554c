use Rattle.std.proofs.Common.{◌≡◌, ◌/◌, ◌≤◌, get_or, arith, ⊎_elim}
use Rattle.std.proofs.lemmas.Bool.{cases_lt}
use Rattle.std.proofs.lemmas.List.{get_or_past}
use Rattle.can_overlap.proofs.Words.{has-joined}
use Rattle.can_overlap.proofs.indexes.IndexSet.insert_all.Goals as goal

pub returns : goal.returns
returns c = λ index. has-joined c.args.self.now.words c.args.more.now.words c.loop-i.self.words index
    (⊎_elim (λ h. c.loop-i.invariant.joined (index / 64) (omega arith))
    (λ (h : 16 ≤ index / 64). let e = c.loop-i.invariant.others (index / 64) (omega arith) in
    let own : get_or c.args.self.now.words (index / 64) 0 ≡ 0 = get_or_past c.args.self.now.words (index / 64) 0 (omega arith) in
    let theirs : get_or c.args.more.now.words (index / 64) 0 ≡ 0 = get_or_past c.args.more.now.words (index / 64) 0 (omega arith) in
    rw (e, own, theirs))
    (cases_lt (index / 64) 16))
