use Rattle.std.proofs.Common.{Option, sym, subst}
use Rattle.std.specs.Prelude.{IfSome}
use Rattle.can_layout.specs.declared.sharing.SharedIndex.{SharedIndex}
use Rattle.can_layout.specs.Shares.{AreShared}
use Rattle.can_layout.proofs.Shares.{shared_there}
use Rattle.can_layout.proofs.sharing.Sharing.shared_row.Goals as goal

pub returns : goal.returns
returns g c =
    let database = g.L.Lookup.whole c.self.inside.lookup.now in
    let shared = c.in_ok-shared.shared.now in
    let are : AreShared database.values shared.numbers.now shared.values =
    subst (λ (s : Option SharedIndex). IfSome s (λ (one : SharedIndex). AreShared database.values one.numbers.now one.values))
    (sym c.in_ok-shared.ensures.value) c.self.invariant in
    rw (c.self.view_is, c.as_bytes.ensures.value) at (shared_there database shared.numbers.now shared.values c.args.number
    c.as_bytes.result.now c.first.result are c.first.ensures)
