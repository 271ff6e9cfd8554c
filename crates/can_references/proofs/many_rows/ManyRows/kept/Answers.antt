use Rattle.can_references.proofs.KeptRows.{kept_there}
use Rattle.can_references.proofs.many_rows.ManyRows.kept.Goals as goal

pub returns : goal.returns
returns c = rw c.self.view_is at (kept_there c.self.invariant.0 c.self.inside.rows.now c.self.inside.by_key c.args.number
    c.args.name.now c.get.result c.self.invariant.1 c.get.ensures.value)
