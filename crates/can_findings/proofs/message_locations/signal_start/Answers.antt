use Rattle.std.proofs.Common.{ap, ◌∙◌}
use Rattle.std.specs.Prelude.{Option}
use Rattle.dbc_reader.specs.declared.start.Start.{Start}
use Rattle.can_findings.specs.Beginnings.{no_start}
use Rattle.can_findings.specs.RowStarts.{start_of_key}
use Rattle.can_findings.specs.MessageLocations.{start_or}
use Rattle.can_findings.proofs.SignalStarts.{start_of_signal}
use Rattle.can_findings.proofs.message_locations.signal_start.Goals as goal

pub returns-in-Some : goal.returns-in-Some
returns-in-Some c =
    ap (λ (start : Option Start). start_or start no_start)
    (c.in-Some.ensures ∙ ap (start_of_key 0 c.args.name.now) c.args.here.now.indexed)
    ∙ start_of_signal 0 c.args.name.now _ _

pub returns-in-None : goal.returns-in-None
returns-in-None c =
    c.no_start.ensures
    ∙ ap (λ (start : Option Start). start_or start no_start)
    (c.in-None.ensures ∙ ap (start_of_key 0 c.args.name.now) c.args.here.now.indexed)
    ∙ start_of_signal 0 c.args.name.now _ _
