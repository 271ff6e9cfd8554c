-- Multiplexing paths, each by its first link and the path of that one's multiplexor (switch).
use Rattle.std.specs.Prelude.{◌≡◌, ℕ, Bool, true, false, List, ◌∷◌, Option, Some, None, length, slice_get}
use Rattle.std.specs.Option.{option_and_then}
use Rattle.can_entries.specs.Links.{Link}
use Rattle.can_entries.specs.declared.walk.Walk.{Walk}
use Rattle.can_entries.specs.declared.walk.Walk.TheVariants.{Chain, Absent, Loop}
use Rattle.can_overlap.specs.Overlaps.{agree, agrees_with, together}

-- the walk at an index begins with the link and continues as that of the link's multiplexor
pub record IsStep (walks : List Walk) (index : ℕ) (link : Link) : Type 0 where
  pub above : List Link
  pub here : slice_get walks index ≡ Some (Chain (link ∷ above))
  pub there : slice_get walks link.switch ≡ Some (Chain above)

-- the link that is kept at an index
abbrev pub own_if : Option (Option Link) → Option Link
own_if None = None
own_if (Some own) = own

abbrev pub own_at : List (Option Link) → ℕ → Option Link
own_at own index = own_if (slice_get own index)

-- what is kept is the first link of a walk that continues as its multiplexor's
abbrev pub AreOwn : List Walk → List (Option Link) → Type 0
AreOwn walks own = (index : ℕ) (link : Link) → own_at own index ≡ Some link → IsStep walks index link

pub record MuxPaths : Type 0 where
  pub walks : List Walk
  pub own : List (Option Link)

-- the links of a walk that is a chain
abbrev pub chain_if : Option Walk → Option (List Link)
chain_if None = None
chain_if (Some (Chain links)) = Some links
chain_if (Some (Absent own)) = None
chain_if (Some Loop) = None

-- ---- one chain and all paths

abbrev pub goes_if : List Link → Option Walk → Bool
goes_if links None = false
goes_if links (Some walk) = together (Chain links) walk

-- whether signals with this chain and with the walk at an index can be active at once
abbrev pub goes_at : List Link → List Walk → ℕ → Bool
goes_at links walks index = goes_if links (slice_get walks index)

-- how many links the walk at an index has
abbrev pub height_if : Option Walk → ℕ
height_if None = 0
height_if (Some (Chain links)) = length links
height_if (Some (Absent own)) = 0
height_if (Some Loop) = 0

abbrev pub height_at : List Walk → ℕ → ℕ
height_at walks index = height_if (slice_get walks index)

-- ---- the links of a chain by their multiplexors

abbrev pub agrees_if_there : Option Link → Link → Bool
agrees_if_there None link = true
agrees_if_there (Some there) link = agree there link

-- the link of a multiplexor, by the indexes of the signals whose own links they are
abbrev pub of_switch : List (Option Link) → List ℕ → ℕ → Option Link
of_switch own owners switch = option_and_then (λ owner. own_at own owner) (slice_get owners switch)

-- a link agrees with a chain if it agrees with the one of its multiplexor
abbrev pub AreEntered : List (Option Link) → List ℕ → List Link → Type 0
AreEntered own owners links = (link : Link) → agrees_if_there (of_switch own owners link.switch) link ≡ agrees_with links link

-- a chain, and the paths of its message
pub record ChainIndex : Type 0 where
  pub links : List Link
  pub walks : List Walk

-- what is memoized for an index
abbrev pub noted_if : Option (Option Bool) → Option Bool
noted_if None = None
noted_if (Some noted) = noted

-- what is memoized is so
abbrev pub AreNoted : ChainIndex → List (Option Bool) → Type 0
AreNoted indexed noted = (index : ℕ) (goes : Bool) → noted_if (slice_get noted index) ≡ Some goes
    → goes_at indexed.links indexed.walks index ≡ goes
