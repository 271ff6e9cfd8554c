use Rattle.std.proofs.Common.{◌≡◌, ap, ◌∙◌}
use Rattle.dbc_records.specs.Records.{Message}
use Rattle.can_layout.proofs.Layouts.{pushed_legend}
use Rattle.can_layout.proofs.legend.push_legend.Goals as goal

pub returns : goal.returns
returns g c =
    let message = c.args.layout.now.message in
    let signals : c.as_slice-signals.result.now ≡ message.signals = c.as_slice-signals.ensures.value
    ∙ ap (λ (m : Message). m.signals) (c.behind-layout.view_is ∙ c.message.ensures) in
    pushed_legend c.args.layout.now.rows _ message.head.size message.signals _ _ c.signals.result.now
    (rw (signals, c.mux_parents.ensures) at c.in_ok-push_lines.ensures) c.signals.ensures
