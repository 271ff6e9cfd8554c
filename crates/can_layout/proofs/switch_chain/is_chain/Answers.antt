use Rattle.std.proofs.Common.{◌≡◌, ◌+◌, ◌-◌, length, sym, ap, ◌∙◌, arith, is_some, true, refl}
use Rattle.std.specs.Option.{option_map}
use Rattle.can_entries.specs.Links.{Link}
use Rattle.can_layout.specs.Plans.{chain_of}
use Rattle.can_entries.specs.Walks.{mux_parent_or_missing, mux_parent_at}
use Rattle.can_entries.specs.declared.mux_parent.MuxParent.TheVariants.{Switch}
use Rattle.can_layout.proofs.Chains.{asks_chain, at_met}
use Rattle.can_layout.proofs.switch_chain.is_chain.Goals as goal

pub loop-passed-preserved : goal.loop-passed-preserved
loop-passed-preserved c =
    let less : length c.args.mux_parents.now + 1 - c.loop-passed._passed - 1 ≡ length c.args.mux_parents.now + 1 -
    (c.loop-passed._passed + 1)
    = omega arith in
    let link : Link = c.in-Some-Switch.link in
    let is : mux_parent_at c.args.mux_parents.now c.loop-passed.current ≡ Switch link =
    sym (ap mux_parent_or_missing c.mux_parent_at.ensures) ∙ ap (λ found. mux_parent_or_missing (option_map (λ mux_parent.
    mux_parent.now) found))
    c.in-Some-Switch.is ∙ c.in-Some-Switch.field-0-is in
    let here : link.switch ≡ c.link.inside.switch = sym (ap (λ (link : Link). link.switch) c.link.view_is) in
    let up = at_met (λ walk. is_some (chain_of walk)) (λ link. true) asks_chain c.args.mux_parents.now
    (length c.args.mux_parents.now + 1 - c.loop-passed._passed) c.loop-passed.current _ c.loop-passed.invariant link
    (omega (arith, c.loop-passed-test.true)) is refl in
    rw (sym here) (rw less at up)
