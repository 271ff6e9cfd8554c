use Rattle.dbc_values.proofs.Kept.{kept}
use Rattle.dbc_values.proofs.list.List.retain.Goals as goal

pub invariant_of-self : goal.invariant_of-self
invariant_of-self g c = kept _ g.T.Checked.IsValid _ _ _ c.retain.ensures.filtered c.self.invariant

pub returns-clause-valid : goal.returns-clause-valid
returns-clause-valid g c = kept _ g.T.Checked.IsValid _ _ _ c.retain.ensures.filtered c.self.invariant
