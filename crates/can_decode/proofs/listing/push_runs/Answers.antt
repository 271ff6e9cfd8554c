use Rattle.std.proofs.Common.{◌≡◌, ℕ, ◌<◌, ◌≤◌, false, slice_get, length, sym, ap, ◌∙◌, arith}
use Rattle.can_layout.specs.Plans.{Plan, is_present}
use Rattle.can_layout.specs.Presence.{Presence}
use Rattle.can_decode.proofs.Absent.{passed_over}
use Rattle.can_decode.proofs.listing.push_runs.Goals as goal
use Rattle.can_decode.proofs.listing.push_runs.Goals.{then-there+in_ok-some, else-there}

pub loop-signal-preserved : goal.loop-signal-preserved
loop-signal-preserved g c =
    let plan : Plan = g.T.SignalText.plan_of c.args.signals.now in
    let same = c.run_from-there.ensures.same ∙ c.loop-signal.invariant.presence in
    let shown = c.loop-signal.invariant.shown in
    let long = ap (λ (presence : Presence). length presence.rows) c.loop-signal.invariant.presence in
    elim c.if-there.branch [
      | then-there+in_ok-some w ↦ record {
        within = omega (arith, c.run_from-there.ensures.within, long);
        presence = same;
        shown = rw (w.text-is, w.some-is) (w.in_ok-some.ensures c.args.text.now.items shown);
      }
      | else-there w ↦
          let absent : (index : ℕ) → c.loop-signal.signal ≤ index → index < c.run_from-there.result.1
          → false ≡ is_present c.args.bytes.now plan.rows (slice_get plan.rows index) =
          λ index from below. sym w.if-there.false ∙ c.run_from-there.ensures.there index from below
          ∙ ap (λ (presence : Presence). is_present presence.bytes presence.rows (slice_get presence.rows index))
          c.loop-signal.invariant.presence in
          let within : c.run_from-there.result.1 ≤ length plan.rows =
          omega (arith, c.run_from-there.ensures.within, long) in
          record {
            within = within;
            presence = same;
            shown = rw (w.text-is, w.some-is) (passed_over (g.T.SignalText.first c.args.signals.now)
                (g.T.SignalText.further c.args.signals.now) c.args.bytes.now plan c.loop-signal.signal
                c.run_from-there.result.1 (omega (arith, c.run_from-there.ensures.some)) within absent
                c.args.text.now.items _ _ shown);
          }
    ]
