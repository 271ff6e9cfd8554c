use Rattle.std.proofs.Common.{◌≡◌, ℕ, ◌+◌, ◌<◌, List, Option, Some, None, length, set, take, subst, arith, refl, sym, ap, ◌∙◌}
use Rattle.std.specs.List.{slice_get}
use Rattle.can_entries.specs.Links.{Link}
use Rattle.can_entries.specs.declared.walk.Walk.{Walk}
use Rattle.can_overlap.specs.inner.MuxPaths.{AreEntered, of_switch, own_at}
use Rattle.can_overlap.proofs.Entered.{goes_on, one_entered}
use Rattle.can_overlap.proofs.chain_index.enter_all.Goals as goal

pub loop-passed-preserved : goal.loop-passed-preserved
loop-passed-preserved c =
    let walks : List Walk = c.args.paths.now.walks in
    let own : List (Option Link) = c.args.paths.now.own in
    let owners : List ℕ = c.loop-passed.owners in
    let links : List Link = c.args.links.now in
    let owner : ℕ = c.loop-passed.owner in
    let link : Link = c.in-Some.own.now in
    let switch : ℕ = c.switch-switch.result in
    let is : link.switch ≡ switch = sym c.switch-switch.ensures in
    let kept : own_at own owner ≡ Some link = sym c.in-Some.ensures.value in
    let free : of_switch own owners link.switch ≡ None = ap (of_switch own owners) is ∙ c.if-not-is_free.ensures refl in
    let space : link.switch < length owners = omega (arith, is, c.if-switch-owners.false) in
    let goes = goes_on walks own owners links c.loop-passed._passed owner link c.loop-passed-test.true c.in-Some.ensures.step kept
    c.loop-passed.invariant.0 in
    let entered = one_entered walks own owners links c.loop-passed._passed owner link c.loop-passed-test.true c.in-Some.ensures.step
    kept c.loop-passed.invariant.0 space free c.loop-passed.invariant.1 in (
      ap (slice_get walks) c.switch-switch.ensures ∙ goes,
      subst (λ (n : ℕ). AreEntered own (set owners n owner) (take (c.loop-passed._passed + 1) links)) is entered,
    )
