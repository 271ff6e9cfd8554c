use Rattle.std.proofs.Common.{◌≡◌, ◌<◌, List, length, map, sym, ap, ◌∙◌, subst}
use Rattle.can_layout.specs.Plans.{label_of}
use Rattle.can_layout.specs.Presence.{AreChained, ArePlain, AreRuns, are_plain}
use Rattle.can_layout.specs.declared.row.Row.{Row}
use Rattle.can_layout.proofs.Chains.{plan_chained, no_links}
use Rattle.can_layout.proofs.plan.plan_in.Goals as goal

pub runs_unless-requires-clause-chained : goal.runs_unless-requires-clause-chained
runs_unless-requires-clause-chained g c =
    let chained : AreChained c.in_ok-made.made c.in_ok-mux_parents.mux_parents.value =
    plan_chained c.args.layout.now.rows _ c.args.layout.now.message.signals c.in_ok-mux_parents.mux_parents.value c.in_ok-made.made
    c.in_ok-mux_parents.ensures c.in_ok-made.ensures in
    subst (λ rows. AreChained rows c.as_slice-4.result.now) (sym c.as_slice-3.ensures.value)
    (subst (λ mux_parents. AreChained c.in_ok-made.made mux_parents) (sym (c.as_slice-4.ensures.value ∙ c.as_ref.ensures)) chained)

pub runs_unless-requires-clause-plain : goal.runs_unless-requires-clause-plain
runs_unless-requires-clause-plain g c =
    λ is. no_links _ (ap are_plain (c.as_slice-3.ensures.value ∙ sym c.as_slice-2.ensures.value)
    ∙ sym c.are_plain-plain.ensures ∙ is)

pub invariant_of-result : goal.invariant_of-result
invariant_of-result g c = (
  c.in_ok-labels.ensures ∙ ap (λ (rows : List Row). map label_of rows) c.as_slice.ensures.value,
  plan_chained c.args.layout.now.rows _ c.args.layout.now.message.signals c.in_ok-mux_parents.mux_parents.value c.in_ok-made.made
      c.in_ok-mux_parents.ensures c.in_ok-made.ensures,
  λ is. no_links _ (sym (ap are_plain c.as_slice-2.ensures.value) ∙ sym c.are_plain-plain.ensures ∙ is),
  subst (λ rows. AreRuns rows c.in_ok-runs.runs.items) c.as_slice-3.ensures.value c.in_ok-runs.ensures.runs,
  subst (λ rows. length c.in_ok-runs.runs.items < length rows → ArePlain rows) c.as_slice-3.ensures.value
      c.in_ok-runs.ensures.plain,
  c.are_plain-plain.ensures ∙ ap are_plain c.as_slice-2.ensures.value,
)
