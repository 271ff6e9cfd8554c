use Rattle.std.proofs.Common.{◌≡◌, ℕ, ◌+◌, slice_get}
use Rattle.can_entries.specs.Walks.{walk_of, links_in}
use Rattle.can_entries.specs.declared.walk.Walk.TheVariants.{Chain}
use Rattle.can_layout.proofs.switch_chain.Chain.link.Given as goal

-- the links that are left are those of the rest of the chain
abbrev pub invariant-loop-passed : goal.invariant-loop-passed
invariant-loop-passed l = record {
  chain : walk_of l.mux_parents l.current ≡ Chain (links_in (walk_of l.mux_parents l.current));
  rest : (k : ℕ) → slice_get l.self (l._passed + k) ≡ slice_get (links_in (walk_of l.mux_parents l.current)) k;
}
