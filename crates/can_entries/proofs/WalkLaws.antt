-- The multiplexing chain from a signal is a chain, ends at a multiplexor (switch) that doesn't exist, or leads back to a signal,
-- and the walk determines which.
use Rattle.std.proofs.Common.{◌≡◌, ◌==◌, ℕ, zero, suc, ◌+◌, ◌-◌, ◌<◌, ◌≤◌, ◌⊎◌, inl, inr, Bool, true, false, List, [], ◌∷◌, length}
use Rattle.std.proofs.Common.{Some, None, slice_get, eqb, refl, ap, sym, subst, ◌∙◌, arith, ⊎_elim}
use Rattle.std.specs.List.{list_any, IsDistinct, AllByRecursion}
use Rattle.std.proofs.lemmas.Option.{slice_get_within}
use Rattle.std.proofs.lemmas.Map.Steps.{length-le_from_distinct_below}
use Rattle.can_entries.specs.Links.{Link}
use Rattle.can_entries.specs.Walks.{mux_parent_or_missing, mux_parent_at, Leads, IsChain, IsAbsent, IsLoop, IsWalk, with_link}
use Rattle.can_entries.specs.Walks.{walk_mux_parent, links_in, walk_up, walk_of}
use Rattle.can_entries.specs.declared.mux_parent.MuxParent.{MuxParent}
use Rattle.can_entries.specs.declared.mux_parent.MuxParent.TheVariants.{Nothing, Missing, Switch}
use Rattle.can_entries.specs.declared.walk.Walk.{Walk}
use Rattle.can_entries.specs.declared.walk.Walk.TheVariants.{Chain, Absent, Loop}
use Rattle.can_entries.proofs.WalkSteps.{links_then, links_then-chain, links_then-absent, walk_step}

module _ (mux_parents : List MuxParent) where
  -- ---- along links

  -- the walk goes along the links
  along : (links : List Link) (index top n : ℕ) → Leads mux_parents index links top → length links < n → walk_up n mux_parents index
      ≡ links_then links (walk_mux_parent (mux_parent_at mux_parents top) (walk_up (n - length links - 1) mux_parents))
  along [] index top n leads more =
      let less : n - 1 ≡ n - length {A = Link} [] - 1 = omega arith in
      walk_step mux_parents n index more ∙ ap (λ (top : ℕ). walk_mux_parent (mux_parent_at mux_parents top) (walk_up (n - 1)
      mux_parents)) leads
      ∙ ap (λ (m : ℕ). walk_mux_parent (mux_parent_at mux_parents top) (walk_up m mux_parents)) less
  along (link ∷ links) index top n leads more =
      let less : n - 1 - length links - 1 ≡ n - length (link ∷ links) - 1 = omega arith in
      walk_step mux_parents n index (omega arith)
      ∙ ap (λ mux_parent. walk_mux_parent mux_parent (walk_up (n - 1) mux_parents)) leads.0
      ∙ ap (λ walk. with_link link walk) (along links link.switch top (n - 1) leads.1 (omega arith))
      ∙ ap (λ (m : ℕ). with_link link (links_then links (walk_mux_parent (mux_parent_at mux_parents top) (walk_up m mux_parents))))
      less

  -- a walk that comes back never ends
  never_ends : (n index again : ℕ) (links round : List Link) → Leads mux_parents index links again → Leads mux_parents again round
      again
      → 0 < length round → walk_up n mux_parents index ≡ Loop
  never_ends zero index again links round leads returns some = refl
  never_ends (suc n) index again [] [] leads returns some = let no : ⊥ = omega arith in absurd no
  never_ends (suc n) index again [] (link ∷ round) leads returns some =
      ap (λ (index : ℕ). walk_mux_parent (mux_parent_at mux_parents index) (walk_up n mux_parents)) leads
      ∙ ap (λ mux_parent. walk_mux_parent mux_parent (walk_up n mux_parents)) returns.0
      ∙ ap (λ walk. with_link link walk) (never_ends n link.switch again round (link ∷ round) returns.1 returns some)
  never_ends (suc n) index again (link ∷ links) round leads returns some =
      ap (λ mux_parent. walk_mux_parent mux_parent (walk_up n mux_parents)) leads.0
      ∙ ap (λ walk. with_link link walk) (never_ends n link.switch again links round leads.1 returns some)

  pub loops : (n index : ℕ) → IsLoop mux_parents index → walk_up n mux_parents index ≡ Loop
  loops n index loop = never_ends n index loop.again loop.before loop.round loop.leads loop.returns loop.some

  -- ---- more links than signals

  -- the signals from which the links lead up
  abbrev indexes_of : ℕ → List Link → List ℕ
  indexes_of index [] = []
  indexes_of index (link ∷ links) = index ∷ indexes_of link.switch links

  length-indexes_of : (index : ℕ) (links : List Link) → length (indexes_of index links) ≡ length links
  length-indexes_of index [] = refl
  length-indexes_of index (link ∷ links) = ap suc (length-indexes_of link.switch links)

  -- a signal with a multiplexor is in the message
  within : (index : ℕ) (link : Link) → mux_parent_at mux_parents index ≡ Switch link → index < length mux_parents
  within index link is =
      elim (slice_get mux_parents index) as (λ found. slice_get mux_parents index ≡ found → mux_parent_or_missing found ≡ Switch
      link
      → index < length mux_parents) [
        | None ↦ λ e is. absurd (let no : Missing ≡ Switch link = is in cc)
        | Some mux_parent ↦ λ e is. slice_get_within mux_parents index mux_parent e
      ] refl is

  all_within : (index : ℕ) (links : List Link) (top : ℕ) → Leads mux_parents index links top → (q : ℕ)
      → list_any (eqb q) (indexes_of index links) ≡ true → q < length mux_parents
  all_within index [] top leads q is = absurd (let no : false ≡ true = is in cc)
  all_within index (link ∷ links) top leads q is =
      elim (eqb q index) as (λ same. eqb q index ≡ same → q < length mux_parents) [
        | true ↦ λ same. let equal : q ≡ index = grind (arith, same) in rw equal (within index link leads.0)
        | false ↦ λ other. all_within link.switch links top leads.1 q (rw other at is)
      ] refl

  -- the walk as far as a signal on it
  record Part (index q : ℕ) : Type 0 where
    links : List Link
    leads : Leads mux_parents index links q

  as_far_as : (index : ℕ) (links : List Link) (top q : ℕ) → Leads mux_parents index links top → list_any (eqb q) (indexes_of index
      links)
      ≡ true → Part index q
  as_far_as index [] top q leads is = absurd (let no : false ≡ true = is in cc)
  as_far_as index (link ∷ links) top q leads is =
      elim (eqb q index) as (λ same. eqb q index ≡ same → Part index q) [
        | true ↦ λ same. let equal : index ≡ q = grind (arith, same) in record { links = []; leads = equal }
        | false ↦ λ other. let part : Part link.switch q = as_far_as link.switch links top q leads.1 (rw other at is) in
            record { links = link ∷ part.links; leads = (leads.0, part.leads) }
      ] refl

  none_equal : (q : ℕ) (indexes : List ℕ) → list_any (eqb q) indexes ≡ false → AllByRecursion (λ y. eqb q y ≡ false) indexes
  none_equal q [] is = tt
  none_equal q (index ∷ indexes) is =
      elim (eqb q index) as (λ same. eqb q index ≡ same → AllByRecursion (λ y. eqb q y ≡ false) (index ∷ indexes)) [
        | true ↦ λ same. absurd (let no : true ≡ false = rw same at is in cc)
        | false ↦ λ other. (other, none_equal q indexes (rw other at is))
      ] refl

  -- no signal comes twice, or the walk leads back to one
  distinct_or_loop : (index : ℕ) (links : List Link) (top : ℕ) → Leads mux_parents index links top
      → IsDistinct eqb (indexes_of index links) ⊎ IsLoop mux_parents index
  unfolding IsDistinct
  distinct_or_loop index [] top leads = inl tt
  distinct_or_loop index (link ∷ links) top leads =
      ⊎_elim
      (λ distinct.
      elim (list_any (eqb index) (indexes_of link.switch links)) as (λ again. list_any (eqb index) (indexes_of link.switch links)
      ≡ again → IsDistinct eqb (index ∷ indexes_of link.switch links) ⊎ IsLoop mux_parents index) [
        | true ↦ λ is.
            let part : Part link.switch index = as_far_as link.switch links top index leads.1 is in
            inr (record {
              again = index;
              before = [];
              round = link ∷ part.links;
              leads = refl;
              returns = (leads.0, part.leads);
              some = omega arith;
            })
        | false ↦ λ is. inl (none_equal index (indexes_of link.switch links) is, distinct)
      ] refl)
      (λ loop. inr (record {
        again = loop.again;
        before = link ∷ loop.before;
        round = loop.round;
        leads = (leads.0, loop.leads);
        returns = loop.returns;
        some = loop.some;
      }))
      (distinct_or_loop link.switch links top leads.1)

  few_or_loop : (index : ℕ) (links : List Link) (top : ℕ) → Leads mux_parents index links top → (length links ≤ length mux_parents)
      ⊎ IsLoop mux_parents index
  few_or_loop index links top leads =
      ⊎_elim
      (λ distinct. inl (let few : length (indexes_of index links) ≤ length mux_parents = length-le_from_distinct_below
      (indexes_of index links) (length mux_parents) distinct (all_within index links top leads) in
      rw (length-indexes_of index links) at few))
      (λ loop. inr loop)
      (distinct_or_loop index links top leads)

  -- ---- what the walk finds

  links_in-of : (walk : Walk) (links : List Link) → walk ≡ Chain links → links_in walk ≡ links
  links_in-of walk links is = ap links_in is

  found_chain : (n index : ℕ) (links : List Link) → walk_up n mux_parents index ≡ Chain links → IsChain mux_parents index links
  found_chain zero index links is = absurd (let no : Loop ≡ Chain links = is in cc)
  found_chain (suc n) index links is =
      elim (mux_parent_at mux_parents index) as (λ mux_parent. mux_parent_at mux_parents index ≡ mux_parent → walk_mux_parent
      mux_parent (walk_up n mux_parents) ≡ Chain links
      → IsChain mux_parents index links) [
        | Nothing ↦ λ e is. subst (λ links. IsChain mux_parents index links) (links_in-of _ links is) (record {
          top = index;
          leads = refl;
          ends = e;
        })
        | Missing ↦ λ e is. absurd (let no : Absent true ≡ Chain links = is in cc)
        | Switch link ↦ λ e is.
            elim (walk_up n mux_parents link.switch) as (λ walk. walk_up n mux_parents link.switch ≡ walk → with_link link walk ≡
            Chain links
            → IsChain mux_parents index links) [
              | Chain rest ↦ λ f is.
                  let chain : IsChain mux_parents link.switch rest = found_chain n link.switch rest f in
                  subst (λ links. IsChain mux_parents index links) (links_in-of _ links is) (record {
                    top = chain.top;
                    leads = (e, chain.leads);
                    ends = chain.ends;
                  })
              | Absent own ↦ λ f is. absurd (let no : Absent false ≡ Chain links = is in cc)
              | Loop ↦ λ f is. absurd (let no : Loop ≡ Chain links = is in cc)
            ] refl is
      ] refl is

  abbrev is_own : Walk → Bool
  is_own (Chain links) = false
  is_own (Absent own) = own
  is_own Loop = false

  found_absent : (n index : ℕ) (own : Bool) → walk_up n mux_parents index ≡ Absent own → IsAbsent mux_parents index own
  found_absent zero index own is = absurd (let no : Loop ≡ Absent own = is in cc)
  found_absent (suc n) index own is =
      elim (mux_parent_at mux_parents index) as (λ mux_parent. mux_parent_at mux_parents index ≡ mux_parent → walk_mux_parent
      mux_parent (walk_up n mux_parents) ≡ Absent own
      → IsAbsent mux_parents index own) [
        | Nothing ↦ λ e is. absurd (let no : Chain [] ≡ Absent own = is in cc)
        | Missing ↦ λ e is. record { top = index; links = []; leads = refl; ends = e; first = sym (ap is_own is) }
        | Switch link ↦ λ e is.
            elim (walk_up n mux_parents link.switch) as (λ walk. walk_up n mux_parents link.switch ≡ walk → with_link link walk ≡
            Absent own
            → IsAbsent mux_parents index own) [
              | Chain rest ↦ λ f is. absurd (let no : Chain (link ∷ rest) ≡ Absent own = is in cc)
              | Absent further ↦ λ f is.
                  let absent : IsAbsent mux_parents link.switch further = found_absent n link.switch further f in
                  let some : (length (link ∷ absent.links) == 0) ≡ false = grind arith in
                  record {
                    top = absent.top;
                    links = link ∷ absent.links;
                    leads = (e, absent.leads);
                    ends = absent.ends;
                    first = sym (ap is_own is) ∙ sym some;
                  }
              | Loop ↦ λ f is. absurd (let no : Loop ≡ Absent own = is in cc)
            ] refl is
      ] refl is

  -- a walk past n signals
  record Long (index n : ℕ) : Type 0 where
    links : List Link
    top : ℕ
    leads : Leads mux_parents index links top
    long : length links ≡ n

  found_long : (n index : ℕ) → walk_up n mux_parents index ≡ Loop → Long index n
  found_long zero index is = record { links = []; top = index; leads = refl; long = refl }
  found_long (suc n) index is =
      elim (mux_parent_at mux_parents index) as (λ mux_parent. mux_parent_at mux_parents index ≡ mux_parent → walk_mux_parent
      mux_parent (walk_up n mux_parents) ≡ Loop
      → Long index (suc n)) [
        | Nothing ↦ λ e is. absurd (let no : Chain [] ≡ Loop = is in cc)
        | Missing ↦ λ e is. absurd (let no : Absent true ≡ Loop = is in cc)
        | Switch link ↦ λ e is.
            elim (walk_up n mux_parents link.switch) as (λ walk. walk_up n mux_parents link.switch ≡ walk → with_link link walk ≡
            Loop
            → Long index (suc n)) [
              | Chain rest ↦ λ f is. absurd (let no : Chain (link ∷ rest) ≡ Loop = is in cc)
              | Absent further ↦ λ f is. absurd (let no : Absent false ≡ Loop = is in cc)
              | Loop ↦ λ f is. let long : Long link.switch n = found_long n link.switch f in record {
                links = link ∷ long.links;
                top = long.top;
                leads = (e, long.leads);
                long = ap suc long.long;
              }
            ] refl is
      ] refl is

  found_loop : (index : ℕ) → walk_of mux_parents index ≡ Loop → IsLoop mux_parents index
  found_loop index is =
      let long : Long index (length mux_parents + 1) = found_long (length mux_parents + 1) index is in
      ⊎_elim (λ few. let no : ⊥ = omega (arith, few, long.long) in absurd no) (λ loop. loop) (few_or_loop index long.links long.top
      long.leads)

  pub found : (index : ℕ) (walk : Walk) → walk_of mux_parents index ≡ walk → IsWalk mux_parents index walk
  found index (Chain links) is = found_chain (length mux_parents + 1) index links is
  found index (Absent own) is = found_absent (length mux_parents + 1) index own is
  found index Loop is = found_loop index is

  -- ---- what is there is found

  -- a walk that ends has no more links than there are signals
  ends_soon : (index : ℕ) (links : List Link) (top : ℕ) (walk : Walk) → Leads mux_parents index links top
      → walk_up (length links + 1) mux_parents index ≡ walk → (walk ≡ Loop → ⊥) → length links ≤ length mux_parents
  ends_soon index links top walk leads is ends =
      ⊎_elim (λ few. few) (λ loop. absurd (ends (sym is ∙ loops (length links + 1) index loop))) (few_or_loop index links top leads)

  is_chain : (index : ℕ) (links : List Link) (n : ℕ) → IsChain mux_parents index links → length links < n → walk_up n mux_parents
      index
      ≡ Chain links
  is_chain index links n chain more =
      along links index chain.top n chain.leads more
      ∙ ap (λ mux_parent. links_then links (walk_mux_parent mux_parent (walk_up (n - length links - 1) mux_parents))) chain.ends
      ∙ links_then-chain links

  is_absent : (index : ℕ) (own : Bool) (n : ℕ) (absent : IsAbsent mux_parents index own) → length absent.links < n
      → walk_up n mux_parents index ≡ Absent own
  is_absent index own n absent more =
      along absent.links index absent.top n absent.leads more
      ∙ ap (λ mux_parent. links_then absent.links (walk_mux_parent mux_parent (walk_up (n - length absent.links - 1) mux_parents)))
      absent.ends
      ∙ links_then-absent absent.links ∙ ap (λ own. Absent own) (sym absent.first)

  pub there : (index : ℕ) (walk : Walk) → IsWalk mux_parents index walk → walk_of mux_parents index ≡ walk
  there index (Chain links) chain =
      let soon : length links ≤ length mux_parents =
      ends_soon index links chain.top (Chain links) chain.leads (is_chain index links (length links + 1) chain (omega arith))
      (λ is. let no : Chain links ≡ Loop = is in cc) in
      is_chain index links (length mux_parents + 1) chain (omega (arith, soon))
  there index (Absent own) absent =
      let soon : length absent.links ≤ length mux_parents =
      ends_soon index absent.links absent.top (Absent own) absent.leads (is_absent index own (length absent.links + 1) absent
      (omega arith)) (λ is. let no : Absent own ≡ Loop = is in cc) in
      is_absent index own (length mux_parents + 1) absent (omega (arith, soon))
  there index Loop loop = loops (length mux_parents + 1) index loop

  -- the walk from a signal is its link and then the walk of its multiplexor
  along_link : (index : ℕ) (link : Link) → mux_parent_at mux_parents index ≡ Switch link → (walk : Walk) → IsWalk mux_parents
      link.switch walk
      → IsWalk mux_parents index (with_link link walk)
  along_link index link is (Chain links) chain = record { top = chain.top; leads = (is, chain.leads); ends = chain.ends }
  along_link index link is (Absent own) absent =
      let some : (length (link ∷ absent.links) == 0) ≡ false = grind arith in
      record {
        top = absent.top;
        links = link ∷ absent.links;
        leads = (is, absent.leads);
        ends = absent.ends;
        first = sym some;
      }
  along_link index link is Loop loop = record {
    again = loop.again;
    before = link ∷ loop.before;
    round = loop.round;
    leads = (is, loop.leads);
    returns = loop.returns;
    some = loop.some;
  }

  pub further : (index : ℕ) (link : Link) → mux_parent_at mux_parents index ≡ Switch link
      → walk_of mux_parents index ≡ with_link link (walk_of mux_parents link.switch)
  further index link is =
      there index (with_link link (walk_of mux_parents link.switch))
      (along_link index link is (walk_of mux_parents link.switch) (found link.switch (walk_of mux_parents link.switch) refl))
