use Rattle.std.proofs.Common.{◌<◌, length, sym, subst, ap, ◌∙◌}
use Rattle.can_layout.specs.Plans.{Plan}
use Rattle.can_layout.specs.Presence.{are_plain}
use Rattle.can_layout.proofs.SwitchBits.{plain_present}
use Rattle.can_decode.proofs.listing.push_signals.Goals as goal

pub push_run-requires-clause-there : goal.push_run-requires-clause-there
push_run-requires-clause-there g c = λ index from below.
    plain_present c.args.bytes.now (g.T.SignalText.plan_of c.args.signals.now).rows
    (ap (λ (plan : Plan). are_plain plan.rows) (sym c.plan-plan.ensures) ∙ sym c.is_plain.ensures ∙ c.if-not-is_plain.false) index
    (subst (λ count. index < count) (c.signals.ensures ∙ ap (λ (plan : Plan). length plan.rows) c.plan-plan.ensures) below)
