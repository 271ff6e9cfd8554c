use Rattle.std.proofs.Common.{length}
use Rattle.can_layout.specs.Meters.{with_picture}
use Rattle.can_layout.proofs.Meters.{none}
use Rattle.can_layout.proofs.diagram.pictures.Goals as goal

pub returns-in_err-indexed-clause-at_most : goal.returns-in_err-indexed-clause-at_most
returns-in_err-indexed-clause-at_most c = none (length c.args.database.now.messages) with_picture c.args.meter.now
