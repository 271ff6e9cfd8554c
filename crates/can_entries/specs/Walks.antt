-- The multiplexing chain from a multiplexed signal: to its multiplexor (switch), to the multiplexor of that, and so on. Source: the
-- DBC file format, "Extended Multiplexing": a multiplexor may be multiplexed itself.
use Rattle.std.specs.Prelude.{◌≡◌, ◌==◌, ℕ, zero, suc, ◌+◌, ◌<◌, Bool, true, false, List, [], ◌∷◌, Option, Some, None, length}
use Rattle.std.specs.Prelude.{slice_get}
use Rattle.can_entries.specs.Links.{Link}
use Rattle.can_entries.specs.declared.mux_parent.MuxParent.{MuxParent}
use Rattle.can_entries.specs.declared.mux_parent.MuxParent.TheVariants.{Nothing, Missing, Switch}
use Rattle.can_entries.specs.declared.walk.Walk.{Walk}
use Rattle.can_entries.specs.declared.walk.Walk.TheVariants.{Chain, Absent, Loop}

-- the multiplexing parent of the signal at an index, among all signals of a message; an index without a signal has no multiplexor
abbrev pub mux_parent_or_missing : Option MuxParent → MuxParent
mux_parent_or_missing None = Missing
mux_parent_or_missing (Some mux_parent) = mux_parent

abbrev pub mux_parent_at : List MuxParent → ℕ → MuxParent
mux_parent_at mux_parents index = mux_parent_or_missing (slice_get mux_parents index)

-- ---- its meaning

-- the links lead from the signal at an index up to the one at `top`: each belongs to the signal before
abbrev pub Leads : List MuxParent → ℕ → List Link → ℕ → Type 0
Leads mux_parents index [] top = index ≡ top
Leads mux_parents index (link ∷ links) top = (mux_parent_at mux_parents index ≡ Switch link) × Leads mux_parents link.switch links
    top

-- a chain leads up to a signal that is not multiplexed
pub record IsChain (mux_parents : List MuxParent) (index : ℕ) (links : List Link) : Type 0 where
  pub top : ℕ
  pub leads : Leads mux_parents index links top
  pub ends : mux_parent_at mux_parents top ≡ Nothing

-- the multiplexing chain leads to a signal whose multiplexor doesn't exist; `own` is true if it is the first one
pub record IsAbsent (mux_parents : List MuxParent) (index : ℕ) (own : Bool) : Type 0 where
  pub top : ℕ
  pub links : List Link
  pub leads : Leads mux_parents index links top
  pub ends : mux_parent_at mux_parents top ≡ Missing
  pub first : own ≡ (length links == 0)

-- the multiplexing chain comes to a signal from which it leads back to that signal
pub record IsLoop (mux_parents : List MuxParent) (index : ℕ) : Type 0 where
  pub again : ℕ
  pub before : List Link
  pub round : List Link
  pub leads : Leads mux_parents index before again
  pub returns : Leads mux_parents again round again
  pub some : 0 < length round

abbrev pub IsWalk : List MuxParent → ℕ → Walk → Type 0
IsWalk mux_parents index (Chain links) = IsChain mux_parents index links
IsWalk mux_parents index (Absent own) = IsAbsent mux_parents index own
IsWalk mux_parents index Loop = IsLoop mux_parents index

-- ---- the same as a function

abbrev pub with_link : Link → Walk → Walk
with_link link (Chain links) = Chain (link ∷ links)
with_link link (Absent own) = Absent false
with_link link Loop = Loop

abbrev pub walk_mux_parent : MuxParent → (ℕ → Walk) → Walk
walk_mux_parent Nothing further = Chain []
walk_mux_parent Missing further = Absent true
walk_mux_parent (Switch link) further = with_link link (further link.switch)

-- the links of a chain; a walk that ends otherwise has none
abbrev pub links_in : Walk → List Link
links_in (Chain links) = links
links_in (Absent own) = []
links_in Loop = []

-- the walk past at most this many signals
abbrev pub walk_up : ℕ → List MuxParent → ℕ → Walk
walk_up zero mux_parents index = Loop
walk_up (suc n) mux_parents index = walk_mux_parent (mux_parent_at mux_parents index) (walk_up n mux_parents)

-- a walk past more signals than there are has come back to one
abbrev pub walk_of : List MuxParent → ℕ → Walk
walk_of mux_parents index = walk_up (length mux_parents + 1) mux_parents index
