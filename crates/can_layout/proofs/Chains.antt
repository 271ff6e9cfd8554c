-- Following the chain from a signal: what is tested of a walk that is a chain, and its links one by one.
use Rattle.std.proofs.Common.{◌≡◌, ℕ, zero, suc, ◌+◌, ◌-◌, ◌<◌, ◌≤◌, Bool, true, false, ◌&&◌, List, [], ◌∷◌, Option, Some, None}
use Rattle.std.proofs.Common.{slice_get, is_some, refl, sym, ap, subst, ◌∙◌, arith, length, map, ⊎_elim}
use Rattle.std.specs.List.{enumerate_from}
use Rattle.std.specs.Option.{option_and_then}
use Rattle.std.proofs.lemmas.Bool.{cases_lt}
use Rattle.std.proofs.lemmas.List.{length-map}
use Rattle.std.proofs.lemmas.List.Sums.{AllPass-from_list_all}
use Rattle.std.proofs.lemmas.Option.{slice_get_past}
use Rattle.dbc_records.specs.Records.{Signal}
use Rattle.can_entries.specs.Rows.{SignalRows}
use Rattle.can_entries.specs.Links.{Link}
use Rattle.can_layout.specs.Plans.{chain_of, row_of, plan_rows, is_met, are_met, is_present}
use Rattle.can_layout.specs.Presence.{link_of, chain_at, AreChained, ArePlain, is_top, are_plain}
use Rattle.can_entries.specs.Switches.{mux_parent_of, mux_parents_of}
use Rattle.can_entries.specs.Walks.{mux_parent_or_missing, mux_parent_at, with_link, walk_mux_parent, walk_up, walk_of, links_in}
use Rattle.can_entries.specs.declared.mux_parent.MuxParent.{MuxParent}
use Rattle.can_entries.specs.declared.mux_parent.MuxParent.TheVariants.{Nothing, Missing, Switch}
use Rattle.can_layout.specs.declared.row.Row.{Row}
use Rattle.can_entries.specs.declared.walk.Walk.{Walk}
use Rattle.can_entries.specs.declared.walk.Walk.TheVariants.{Chain, Absent, Loop}
use Rattle.can_entries.proofs.WalkSteps.{walk_step}
use Rattle.can_entries.proofs.WalkLaws.{further}

-- a test on multiplexing chains: only a chain passes, and one that begins with a link passes if the link and the rest
-- of the chain do
pub record IsCached (cached : Walk → Bool) (met : Link → Bool) : Type 0 where
  pub top : cached (Chain []) ≡ true
  pub missing : cached (Absent true) ≡ false
  pub loop : cached Loop ≡ false
  pub link : (link : Link) (walk : Walk) → cached (with_link link walk) ≡ (met link && cached walk)

chain_by_link : (link : Link) (walk : Walk) → is_some (chain_of (with_link link walk)) ≡ (true && is_some (chain_of walk))
chain_by_link link (Chain links) = refl
chain_by_link link (Absent own) = refl
chain_by_link link Loop = refl

pub asks_chain : IsCached (λ walk. is_some (chain_of walk)) (λ link. true)
asks_chain = record { top = refl; missing = refl; loop = refl; link = chain_by_link }

module _ (bytes : List ℕ) (rows : List Row) where
  not_met : (b : Bool) → false ≡ (b && false)
  not_met true = refl
  not_met false = refl

  met_by_link : (link : Link) (walk : Walk) → are_met bytes rows (chain_of (with_link link walk))
      ≡ (is_met bytes rows link && are_met bytes rows (chain_of walk))
  met_by_link link (Chain links) = refl
  met_by_link link (Absent own) = not_met (is_met bytes rows link)
  met_by_link link Loop = not_met (is_met bytes rows link)

  pub asks_met : IsCached (λ walk. are_met bytes rows (chain_of walk)) (is_met bytes rows)
  asks_met = record { top = refl; missing = refl; loop = refl; link = met_by_link }

-- one turn of the code
module _ (cached : Walk → Bool) (met : Link → Bool) (asks : IsCached cached met) (mux_parents : List MuxParent) (n index : ℕ)
    (answer : Bool)
    (so_far : answer ≡ cached (walk_up n mux_parents index)) where
  round : (mux_parent : MuxParent) → 0 < n → mux_parent_at mux_parents index ≡ mux_parent → answer ≡ cached (walk_mux_parent
      mux_parent (walk_up (n - 1) mux_parents))
  round mux_parent some is =
      so_far ∙ ap cached (walk_step mux_parents n index some) ∙ ap (λ mux_parent. cached (walk_mux_parent mux_parent (walk_up (n -
      1) mux_parents))) is

  pub at_top : 0 < n → mux_parent_at mux_parents index ≡ Nothing → true ≡ answer
  at_top some is = sym (round Nothing some is ∙ asks.top)

  pub at_missing : 0 < n → mux_parent_at mux_parents index ≡ Missing → false ≡ answer
  at_missing some is = sym (round Missing some is ∙ asks.missing)

  pub at_unmet : (link : Link) → 0 < n → mux_parent_at mux_parents index ≡ Switch link → met link ≡ false → false ≡ answer
  at_unmet link some is unmet =
      sym (round (Switch link) some is ∙ asks.link link (walk_up (n - 1) mux_parents link.switch)
      ∙ ap (λ b. b && cached (walk_up (n - 1) mux_parents link.switch)) unmet)

  pub at_met : (link : Link) → 0 < n → mux_parent_at mux_parents index ≡ Switch link → met link ≡ true
      → answer ≡ cached (walk_up (n - 1) mux_parents link.switch)
  at_met link some is so =
      round (Switch link) some is ∙ asks.link link (walk_up (n - 1) mux_parents link.switch)
      ∙ ap (λ b. b && cached (walk_up (n - 1) mux_parents link.switch)) so

  pub at_end : n ≡ 0 → false ≡ answer
  at_end none = sym (so_far ∙ ap (λ (n : ℕ). cached (walk_up n mux_parents index)) none ∙ asks.loop)

-- ---- whole chains

-- the walk from a signal, by its multiplexing parent
pub way : (mux_parents : List MuxParent) (index : ℕ) (mux_parent : MuxParent) → mux_parent_at mux_parents index ≡ mux_parent
    → walk_of mux_parents index ≡ walk_mux_parent mux_parent (walk_up (length mux_parents) mux_parents)
way mux_parents index mux_parent is =
    let less : length mux_parents + 1 - 1 ≡ length mux_parents = omega arith in
    walk_step mux_parents (length mux_parents + 1) index (omega arith)
    ∙ ap (λ mux_parent. walk_mux_parent mux_parent (walk_up (length mux_parents + 1 - 1) mux_parents)) is
    ∙ ap (λ (n : ℕ). walk_mux_parent mux_parent (walk_up n mux_parents)) less

module _ (mux_parents : List MuxParent) (index : ℕ) (links : List Link) (chain : walk_of mux_parents index ≡ Chain links) where
  same_links : (walk : Walk) (others : List Link) → walk ≡ Chain others → walk ≡ Chain links → links ≡ others
  same_links walk others is so = sym (ap links_in so) ∙ ap links_in is

  -- and the others are the chain of its multiplexor (switch)
  begins : (link : Link) → mux_parent_at mux_parents index ≡ Switch link → (walk : Walk) → walk_of mux_parents link.switch ≡ walk
      → links ≡ link ∷ links_in (walk_of mux_parents link.switch)
  begins link is (Chain rest) so =
      same_links (walk_of mux_parents index) (link ∷ links_in (walk_of mux_parents link.switch))
      (further mux_parents index link is ∙ ap (with_link link) so
      ∙ ap (λ (rest : List Link). Chain (link ∷ rest)) (sym (ap links_in so))) chain
  begins link is (Absent own) so =
      absurd (let no : Absent false ≡ Chain links = sym (further mux_parents index link is ∙ ap (with_link link) so) ∙ chain in cc)
  begins link is Loop so =
      absurd (let no : Loop ≡ Chain links = sym (further mux_parents index link is ∙ ap (with_link link) so) ∙ chain in cc)

  -- the first link of a chain is that of the signal
  pub first_link : link_of (mux_parent_at mux_parents index) ≡ slice_get links 0
  first_link =
      elim (mux_parent_at mux_parents index) as (λ mux_parent. mux_parent_at mux_parents index ≡ mux_parent → link_of mux_parent ≡
      slice_get links 0) [
        | Nothing ↦ λ is. ap (λ (links : List Link). slice_get links 0)
            (sym (same_links (walk_of mux_parents index) [] (way mux_parents index Nothing is) chain))
        | Missing ↦ λ is. absurd (let no : Absent true ≡ Chain links = sym (way mux_parents index Missing is) ∙ chain in cc)
        | Switch link ↦ λ is. sym (ap (λ (links : List Link). slice_get links 0) (begins link is (walk_of mux_parents link.switch)
            refl))
      ] refl

  ends : (link : Link) → mux_parent_at mux_parents index ≡ Switch link → (walk : Walk) → walk_of mux_parents link.switch ≡ walk
      → walk_of mux_parents link.switch ≡ Chain (links_in (walk_of mux_parents link.switch))
  ends link is (Chain rest) so = so ∙ ap (λ (links : List Link). Chain links) (sym (ap links_in so))
  ends link is (Absent own) so =
      absurd (let no : Absent false ≡ Chain links = sym (further mux_parents index link is ∙ ap (with_link link) so) ∙ chain in cc)
  ends link is Loop so =
      absurd (let no : Loop ≡ Chain links = sym (further mux_parents index link is ∙ ap (with_link link) so) ∙ chain in cc)

  pub next_chain : (link : Link) → mux_parent_at mux_parents index ≡ Switch link
      → walk_of mux_parents link.switch ≡ Chain (links_in (walk_of mux_parents link.switch))
  next_chain link is = ends link is (walk_of mux_parents link.switch) refl

  pub next_links : (link : Link) → mux_parent_at mux_parents index ≡ Switch link → links ≡ link ∷ links_in (walk_of mux_parents
      link.switch)
  next_links link is = begins link is (walk_of mux_parents link.switch) refl

abbrev switch_or : Link → Option Link → MuxParent
switch_or other None = Switch other
switch_or other (Some link) = Switch link

-- a signal's link is that of a multiplexor
pub mux_parent_of_link : (mux_parent : MuxParent) (link : Link) → link_of mux_parent ≡ Some link → mux_parent ≡ Switch link
mux_parent_of_link Nothing link is = absurd (let no : None ≡ Some link = is in cc)
mux_parent_of_link Missing link is = absurd (let no : None ≡ Some link = is in cc)
mux_parent_of_link (Switch other) link is = ap (λ found. switch_or other found) is

-- ---- the rows of a plan

module _ (rows : SignalRows) (mux_parents : List MuxParent) (size : ℕ) where
  abbrev row_at : ℕ × Signal → Row
  row_at placed = row_of rows mux_parents size placed.0 placed.1

  row_within : (from index : ℕ) (signals : List Signal) → index < length signals
      → chain_at (map row_at (enumerate_from from signals)) index ≡ chain_of (walk_of mux_parents (from + index))
  row_within from index [] within = let no : ⊥ = omega (arith, within) in absurd no
  row_within from zero (signal ∷ signals) within =
      let here : from ≡ from + 0 = omega arith in ap (λ (index : ℕ). chain_of (walk_of mux_parents index)) here
  row_within from (suc index) (signal ∷ signals) within =
      let here : from + 1 + index ≡ from + suc index = omega arith in
      row_within (from + 1) index signals (omega (arith, within)) ∙ ap (λ (index : ℕ). chain_of (walk_of mux_parents index)) here

  row_past : (from index : ℕ) (signals : List Signal) → length signals ≤ index
      → chain_at (map row_at (enumerate_from from signals)) index ≡ None
  row_past from index [] past = refl
  row_past from zero (signal ∷ signals) past = let no : ⊥ = omega (arith, past) in absurd no
  row_past from (suc index) (signal ∷ signals) past = row_past (from + 1) index signals (omega (arith, past))

  -- there is no walk if there is no signal
  no_way : (index : ℕ) → length mux_parents ≤ index → chain_of (walk_of mux_parents index) ≡ None
  no_way index past = ap chain_of (way mux_parents index Missing (ap mux_parent_or_missing (slice_get_past mux_parents index past)))

  pub are_chained : (signals : List Signal) → length mux_parents ≡ length signals
      → AreChained (plan_rows rows mux_parents size signals) mux_parents
  are_chained signals as_many index =
      ⊎_elim
      (λ within.
      let here : 0 + index ≡ index = omega arith in
      row_within 0 index signals within ∙ ap (λ (index : ℕ). chain_of (walk_of mux_parents index)) here)
      (λ past. row_past 0 index signals past ∙ sym (no_way index (omega (arith, as_many, past))))
      (cases_lt index (length signals))

-- the rows of a plan are chained by the multiplexing parents of the signals
pub plan_chained : (rows : SignalRows) (size : ℕ) (signals : List Signal) (mux_parents : List MuxParent) (made : List Row)
    → mux_parents ≡ mux_parents_of rows signals → made ≡ plan_rows rows mux_parents size signals → AreChained made mux_parents
plan_chained rows size signals mux_parents made mux_parent is =
    let as_many : length mux_parents ≡ length signals =
    ap (λ (mux_parents : List MuxParent). length mux_parents) mux_parent ∙ length-map signals (mux_parent_of rows signals) in
    subst (λ made. AreChained made mux_parents) (sym is) (are_chained rows mux_parents size signals as_many)

-- whether a signal is present is whether its chain is met
pub present_by_chain : (bytes : List ℕ) (rows : List Row) (index : ℕ) → is_present bytes rows (slice_get rows index)
    ≡ are_met bytes rows (chain_at rows index)
present_by_chain bytes rows index =
    elim (slice_get rows index) as (λ row. is_present bytes rows row
    ≡ are_met bytes rows (option_and_then (λ (row : Row). row.chain) row)) [
      | None ↦ refl
      | Some row ↦ refl
    ]

-- a signal under a multiplexor is present if its link is met and its multiplexor is present
pub present_under : (bytes : List ℕ) (rows : List Row) (mux_parents : List MuxParent) → AreChained rows mux_parents → (index : ℕ)
    (link : Link)
    → mux_parent_at mux_parents index ≡ Switch link
    → is_present bytes rows (slice_get rows index)
    ≡ (is_met bytes rows link && is_present bytes rows (slice_get rows link.switch))
present_under bytes rows mux_parents chained index link is =
    present_by_chain bytes rows index ∙ ap (are_met bytes rows) (chained index)
    ∙ ap (λ walk. are_met bytes rows (chain_of walk)) (further mux_parents index link is)
    ∙ met_by_link bytes rows link (walk_of mux_parents link.switch)
    ∙ ap (λ there. is_met bytes rows link && there) (ap (are_met bytes rows) (sym (chained link.switch))
    ∙ sym (present_by_chain bytes rows link.switch))

-- a chain without a first link, and one with
pub without_first : (links : List Link) → None ≡ slice_get links 0 → true ≡ is_top (Some links)
without_first [] is = refl
without_first (link ∷ links) is = absurd (let no : None ≡ Some link = is in cc)

pub with_first : (links : List Link) (first : Link) → Some first ≡ slice_get links 0 → false ≡ is_top (Some links)
with_first [] first is = absurd (let no : Some first ≡ None = is in cc)
with_first (link ∷ links) first is = refl

-- rows of which none has a multiplexor
no_link : (chain : Option (List Link)) → is_top chain ≡ true → chain ≡ Some []
no_link None is = absurd (let no : false ≡ true = is in cc)
no_link (Some []) is = refl
no_link (Some (link ∷ links)) is = absurd (let no : false ≡ true = is in cc)

pub no_links : (rows : List Row) → are_plain rows ≡ true → ArePlain rows
unfolding are_plain
no_links rows is = λ index row within. no_link _ (AllPass-from_list_all (λ row. is_top row.chain) rows is index row within)
