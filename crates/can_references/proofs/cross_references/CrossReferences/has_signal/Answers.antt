use Rattle.std.proofs.Common.{ap, ◌∙◌}
use Rattle.dbc_records.specs.Databases.{Database}
use Rattle.can_references.specs.SignalNames.{same_signal}
use Rattle.can_references.specs.Finding.{occurs_in}
use Rattle.can_references.specs.CrossReferences.{signals_of}
use Rattle.can_references.proofs.Alike.{occurs_alike}
use Rattle.can_references.proofs.cross_references.CrossReferences.has_signal.Goals as goal

pub returns : goal.returns
returns g c =
    c.has.ensures ∙ occurs_alike (same_signal (c.args.number, c.args.name.now)) _ _ c.self.invariant.all_signals
    ∙ ap (λ (d : Database). occurs_in same_signal (c.args.number, c.args.name.now) (signals_of d)) c.self.view_is
