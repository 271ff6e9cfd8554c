use Rattle.std.proofs.Common.{◌≡◌, ℕ, suc, ◌+◌, List, slice_get, sym, ap, ◌∙◌, arith}
use Rattle.std.specs.Option.{option_map}
use Rattle.can_entries.specs.Links.{Link}
use Rattle.can_entries.specs.Walks.{walk_of, mux_parent_at, links_in}
use Rattle.can_entries.specs.declared.mux_parent.MuxParent.{MuxParent}
use Rattle.can_entries.specs.declared.mux_parent.MuxParent.TheVariants.{Switch}
use Rattle.can_layout.proofs.Chains.{first_link, next_chain, next_links, mux_parent_of_link}
use Rattle.can_layout.proofs.switch_chain.Chain.link.Goals as goal

pub loop-passed-preserved : goal.loop-passed-preserved
loop-passed-preserved c =
    let mux_parents : List MuxParent = c.as_slice-mux_parents.result.now in
    let link : Link = c.in-Some.link.now in
    let is : mux_parent_at mux_parents c.loop-passed.current ≡ Switch link =
    mux_parent_of_link (mux_parent_at mux_parents c.loop-passed.current) link (sym c.link_at.ensures
    ∙ ap (λ found. option_map (λ link. link.now) found) c.in-Some.is) in
    let here : link.switch ≡ c.link.inside.switch = sym (ap (λ (link : Link). link.switch) c.link.view_is) in
    let rest : List Link = links_in (walk_of mux_parents c.loop-passed.current) in
    rw (sym here) (record {
      chain = next_chain mux_parents c.loop-passed.current rest c.loop-passed.invariant.chain link is;
      rest = λ k.
          let further : c.loop-passed._passed + 1 + k ≡ c.loop-passed._passed + suc k = omega arith in
          ap (λ (k : ℕ). slice_get c.args.self.now k) further ∙ c.loop-passed.invariant.rest (suc k)
          ∙ ap (λ (links : List Link). slice_get links (suc k)) (next_links mux_parents c.loop-passed.current rest
          c.loop-passed.invariant.chain link is);
    })

pub returns : goal.returns
returns c =
    let mux_parents : List MuxParent = c.as_slice-mux_parents.result.now in
    let here : c.loop-passed._passed + 0 ≡ c.args.up = omega (arith, c.loop-passed-test.false, c.loop-passed.auto) in
    c.link_at-2.ensures
    ∙ first_link mux_parents c.loop-passed.current (links_in (walk_of mux_parents c.loop-passed.current))
    c.loop-passed.invariant.chain
    ∙ sym (c.loop-passed.invariant.rest 0) ∙ ap (λ (k : ℕ). slice_get c.args.self.now k) here
