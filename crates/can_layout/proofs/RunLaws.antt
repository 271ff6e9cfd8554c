-- Runs of indexes of which the same holds.
use Rattle.std.proofs.Common.{◌≡◌, ℕ, zero, suc, ◌+◌, ◌<◌, ◌≤◌, List, [], ◌∷◌, ◌++◌, length, slice_get, Option, Some, None}
use Rattle.std.proofs.Common.{is_some, refl, sym, ap, subst, ◌∙◌, ⊎_elim, arith, if◌then◌else◌}
use Rattle.std.specs.Option.{option_and_then}
use Rattle.std.proofs.lemmas.Bool.{cases_lt}
use Rattle.std.proofs.lemmas.Option.{slice_get-get_or}
use Rattle.can_entries.specs.Links.{Link}
use Rattle.can_entries.specs.Walks.{mux_parent_at, with_link, walk_mux_parent, walk_up, walk_of}
use Rattle.can_entries.specs.declared.mux_parent.MuxParent.{MuxParent}
use Rattle.can_entries.specs.declared.mux_parent.MuxParent.TheVariants.{Nothing, Missing, Switch}
use Rattle.can_entries.specs.declared.walk.Walk.{Walk}
use Rattle.can_entries.specs.declared.walk.Walk.TheVariants.{Chain, Absent, Loop}
use Rattle.can_entries.proofs.WalkLaws.{further}
use Rattle.can_layout.specs.Plans.{chain_of}
use Rattle.can_layout.specs.Presence.{IsRun, IsLongestRun, AreChained, ArePlain, chain_at, parent_at}
use Rattle.can_layout.specs.declared.row.Row.{Row}
use Rattle.can_layout.proofs.Chains.{way}

module _ {X : Type 0} (given : ℕ → X) where
  -- an index alone
  pub run_of_one : (index : ℕ) → IsRun given index (index + 1)
  run_of_one index = record {
    some = omega arith;
    same = λ k from below. let here : k ≡ index = omega (arith, from, below) in ap given here;
  }

  -- one index more
  pub run_longer : (index end : ℕ) → IsRun given index end → given end ≡ given index → IsRun given index (end + 1)
  run_longer index end run next = record {
    some = omega (arith, run.some);
    same = λ k from below. ⊎_elim (λ before. run.same k from before)
        (λ past. let here : k ≡ end = omega (arith, past, below) in ap given here ∙ next) (cases_lt k end);
  }

-- of two things that agree the same holds, and no more
pub longest_of_other : {X Y : Type 0} (given : ℕ → X) (other : ℕ → Y) (from : X → Y) (back : Y → X)
    → ((index : ℕ) → other index ≡ from (given index)) → ((index : ℕ) → given index ≡ back (other index))
    → (count index end : ℕ) → IsLongestRun given count index end → IsLongestRun other count index end
longest_of_other given other from back agree again count index end longest = record {
  run = record {
    some = longest.run.some;
    same = λ k after before. agree k ∙ ap from (longest.run.same k after before) ∙ sym (agree index);
  };
  within = longest.within;
  last = λ less is. longest.last less (again end ∙ ap back is ∙ sym (again index));
}

-- ---- chains and the multiplexing parents of signals

-- the chain of a signal, by its multiplexing parent
abbrev chain_by : List MuxParent → MuxParent → Option (List Link)
chain_by mux_parents mux_parent = chain_of (walk_mux_parent mux_parent (walk_up (length mux_parents) mux_parents))

-- the multiplexing parent of a signal, by its chain
abbrev mux_parent_by : Option (List Link) → MuxParent
mux_parent_by None = Missing
mux_parent_by (Some []) = Nothing
mux_parent_by (Some (link ∷ links)) = Switch link

module _ (rows : List Row) (mux_parents : List MuxParent) (chained : AreChained rows mux_parents) (index : ℕ) where
  pub chain_by_parent : chain_at rows index ≡ chain_by mux_parents (parent_at rows mux_parents index)
  chain_by_parent =
      elim (chain_at rows index) as (λ chain. chain_at rows index ≡ chain
      → chain ≡ chain_by mux_parents (if is_some chain then mux_parent_at mux_parents index else Missing)) [
        | None ↦ λ is. refl
        | Some links ↦ λ is. sym is ∙ chained index ∙ ap chain_of (way mux_parents index (mux_parent_at mux_parents index) refl)
      ] refl

  mux_parent_of_walk : (links : List Link) (link : Link) (walk : Walk) → chain_of (with_link link walk) ≡ Some links
      → Switch link ≡ mux_parent_by (chain_of (with_link link walk))
  mux_parent_of_walk links link (Chain rest) is = refl
  mux_parent_of_walk links link (Absent own) is = absurd (let no : None ≡ Some links = is in cc)
  mux_parent_of_walk links link Loop is = absurd (let no : None ≡ Some links = is in cc)

  mux_parent_of_chain : (links : List Link) → chain_at rows index ≡ Some links → (mux_parent : MuxParent) → mux_parent_at
      mux_parents index ≡ mux_parent
      → mux_parent ≡ mux_parent_by (chain_at rows index)
  mux_parent_of_chain links is Nothing so = sym (ap mux_parent_by (chained index ∙ ap chain_of (way mux_parents index Nothing so)))
  mux_parent_of_chain links is Missing so = sym (ap mux_parent_by (chained index ∙ ap chain_of (way mux_parents index Missing so)))
  mux_parent_of_chain links is (Switch link) so =
      let on : chain_at rows index ≡ chain_of (with_link link (walk_of mux_parents link.switch)) =
      chained index ∙ ap chain_of (further mux_parents index link so) in
      mux_parent_of_walk links link (walk_of mux_parents link.switch) (sym on ∙ is) ∙ sym (ap mux_parent_by on)

  pub parent_by_chain : parent_at rows mux_parents index ≡ mux_parent_by (chain_at rows index)
  parent_by_chain =
      elim (chain_at rows index) as (λ chain. chain_at rows index ≡ chain
      → (if is_some chain then mux_parent_at mux_parents index else Missing) ≡ mux_parent_by chain) [
        | None ↦ λ is. refl
        | Some links ↦ λ is. mux_parent_of_chain links is (mux_parent_at mux_parents index) refl ∙ ap mux_parent_by is
      ] refl

-- signals with the same parent multiplexor have the same chain, and no others
pub chained_run : (rows : List Row) (mux_parents : List MuxParent) → AreChained rows mux_parents → (count index end : ℕ)
    → IsLongestRun (parent_at rows mux_parents) count index end → IsLongestRun (chain_at rows) count index end
chained_run rows mux_parents chained count index end longest =
    longest_of_other (parent_at rows mux_parents) (chain_at rows) (chain_by mux_parents) mux_parent_by (chain_by_parent rows
    mux_parents chained)
    (parent_by_chain rows mux_parents chained) count index end longest

-- the run of one more signal
module _ {X : Type 0} where
  pub one_more : (P : ℕ → X → Type 0) (xs : List X) (y : X) → ((k : ℕ) (x : X) → slice_get xs k ≡ Some x → P k x) → P (length xs) y
      → (k : ℕ) (x : X) → slice_get (xs ++ y ∷ []) k ≡ Some x → P k x
  one_more P [] y all here zero x is = let same : y ≡ x = cc in subst (P 0) same here
  one_more P [] y all here (suc k) x is = absurd (let no : None ≡ Some x = is in cc)
  one_more P (x' ∷ xs) y all here zero x is = all zero x is
  one_more P (x' ∷ xs) y all here (suc k) x is = one_more (λ k. P (suc k)) xs y (λ k. all (suc k)) here k x is

-- if all are present nothing else holds
pub plain_run : (rows : List Row) → ArePlain rows → (index : ℕ) (row : Row) → index < length rows
    → IsLongestRun (chain_at rows) (length rows) index (length rows)
plain_run rows plain index row below =
    let given : (k : ℕ) → k < length rows → chain_at rows k ≡ Some [] = λ k within.
    ap (λ found. option_and_then (λ (row : Row). row.chain) found) (slice_get-get_or rows k row within) ∙ plain k row within in
    record {
      run = record { some = below; same = λ k from within. given k within ∙ sym (given index below) };
      within = omega arith;
      last = λ less is. let no : ⊥ = omega (arith, less) in no;
    }

-- from a later index on
pub longest_later : {X : Type 0} (given : ℕ → X) (count first end index : ℕ) → IsLongestRun given count first end → first ≤ index
    → index < end → IsLongestRun given count index end
longest_later given count first end index longest from below = record {
  run = record {
    some = below;
    same = λ k after before. longest.run.same k (omega (arith, from, after)) before ∙ sym (longest.run.same index from below);
  };
  within = longest.within;
  last = λ less is. longest.last less (is ∙ longest.run.same index from below);
}
