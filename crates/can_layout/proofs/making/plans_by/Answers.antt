use Rattle.std.proofs.Common.{length}
use Rattle.can_layout.specs.Meters.{with_plan}
use Rattle.can_layout.proofs.Meters.{none}
use Rattle.can_layout.proofs.making.plans_by.Goals as goal

pub returns-in_err-sharing-clause-at_most : goal.returns-in_err-sharing-clause-at_most
returns-in_err-sharing-clause-at_most g c = none (length (g.L.Lookup.whole c.args.lookup.now).messages) with_plan c.args.meter.now
