use Rattle.std.proofs.Common.{◌≡◌, ◌+◌, ◌-◌, length, sym, ap, ◌∙◌, arith}
use Rattle.std.specs.Option.{option_map}
use Rattle.can_entries.specs.Links.{Link}
use Rattle.can_entries.specs.Walks.{mux_parent_or_missing, mux_parent_at}
use Rattle.can_entries.specs.declared.mux_parent.MuxParent.TheVariants.{Nothing, Missing, Switch}
use Rattle.can_entries.proofs.WalkSteps.{at_top, at_missing, at_switch, at_end}
use Rattle.can_entries.proofs.walk.walk_of.Goals as goal

pub returns-in_default : goal.returns-in_default
returns-in_default c =
    let is : mux_parent_at c.args.mux_parents.now c.loop-passed.current ≡ Missing = sym (ap mux_parent_or_missing
    c.mux_parent_at.ensures)
    ∙ ap (λ found. mux_parent_or_missing (option_map (λ mux_parent. mux_parent.now) found)) c.in_default.is in
    c.absent.ensures ∙ at_missing c.args.mux_parents.now (length c.args.mux_parents.now + 1 - c.loop-passed._passed)
    c.loop-passed.current
    c.loop-passed.links _ c.loop-passed.invariant (omega (arith, c.loop-passed-test.true)) is

pub returns-in-Nothing : goal.returns-in-Nothing
returns-in-Nothing c =
    let is : mux_parent_at c.args.mux_parents.now c.loop-passed.current ≡ Nothing = sym (ap mux_parent_or_missing
    c.mux_parent_at.ensures)
    ∙ ap (λ found. mux_parent_or_missing (option_map (λ mux_parent. mux_parent.now) found)) c.in-Some.is ∙ c.in-Nothing.is in
    at_top c.args.mux_parents.now (length c.args.mux_parents.now + 1 - c.loop-passed._passed) c.loop-passed.current
    c.loop-passed.links _
    c.loop-passed.invariant (omega (arith, c.loop-passed-test.true)) is

pub returns-in-Missing : goal.returns-in-Missing
returns-in-Missing c =
    let is : mux_parent_at c.args.mux_parents.now c.loop-passed.current ≡ Missing = sym (ap mux_parent_or_missing
    c.mux_parent_at.ensures)
    ∙ ap (λ found. mux_parent_or_missing (option_map (λ mux_parent. mux_parent.now) found)) c.in-Some.is ∙ c.in-Missing.is in
    c.absent-in-Missing.ensures ∙ at_missing c.args.mux_parents.now (length c.args.mux_parents.now + 1 - c.loop-passed._passed)
    c.loop-passed.current c.loop-passed.links _ c.loop-passed.invariant (omega (arith, c.loop-passed-test.true)) is

pub loop-passed-preserved : goal.loop-passed-preserved
loop-passed-preserved c =
    let less : length c.args.mux_parents.now + 1 - c.loop-passed._passed - 1 ≡ length c.args.mux_parents.now + 1 -
    (c.loop-passed._passed + 1)
    = omega arith in
    let is : mux_parent_at c.args.mux_parents.now c.loop-passed.current ≡ Switch c.in_ok-copy-in-Switch.field-0 =
    sym (ap mux_parent_or_missing c.mux_parent_at.ensures) ∙ ap (λ found. mux_parent_or_missing (option_map (λ mux_parent.
    mux_parent.now) found))
    c.in-Some.is ∙ c.in-Switch.is ∙ ap (λ link. Switch link) (sym c.in_ok-copy-in-Switch.ensures) in
    let up = at_switch c.args.mux_parents.now (length c.args.mux_parents.now + 1 - c.loop-passed._passed) c.loop-passed.current
    c.loop-passed.links _ c.loop-passed.invariant c.in_ok-copy-in-Switch.field-0 (omega (arith, c.loop-passed-test.true)) is in
    let here : c.in_ok-copy-in-Switch.field-0.switch ≡ c.link.inside.switch =
    ap (λ (link : Link). link.switch) c.in_ok-copy-in-Switch.ensures ∙ sym (ap (λ (link : Link). link.switch) c.link.view_is) in
    rw (c.in_ok-push-in-Switch.ensures.ok, sym here) (rw less at up)

pub returns : goal.returns
returns c =
    at_end c.args.mux_parents.now (length c.args.mux_parents.now + 1 - c.loop-passed._passed) c.loop-passed.current
    c.loop-passed.links _
    c.loop-passed.invariant (omega (arith, c.loop-passed-test.false))
