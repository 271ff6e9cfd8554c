-- The walk at an index, looked up by its index or taken from the list.
use Rattle.std.proofs.Common.{◌≡◌, ℕ, ◌+◌, ◌<◌, false, List, Option, Some, None, length, get_or, drop, refl, ap, ◌∙◌, sym}
use Rattle.std.specs.List.{slice_get}
use Rattle.std.proofs.lemmas.Option.{slice_get-get_or}
use Rattle.std.proofs.lemmas.List.{get_or-drop}
use Rattle.can_entries.specs.Links.{Link}
use Rattle.can_entries.specs.declared.walk.Walk.{Walk}
use Rattle.can_entries.specs.declared.walk.Walk.TheVariants.{Chain, Absent, Loop}
use Rattle.can_overlap.specs.Overlaps.{together}
use Rattle.can_overlap.specs.inner.MuxPaths.{chain_if, goes_if, goes_at}

-- the walk that many indexes after the first of some
pub goes_after : (links : List Link) (walks : List Walk) (from a : ℕ) (d : Walk) → from + a < length walks
    → goes_at links walks (from + a) ≡ together (Chain links) (get_or (drop from walks) a d)
goes_after links walks from a d h =
    ap (goes_if links) (slice_get-get_or walks (from + a) d h) ∙ ap (together (Chain links)) (sym (get_or-drop from walks a d))

abbrev links_if : List Link → Option (List Link) → List Link
links_if d None = d
links_if d (Some links) = links

chain_is : (walk : Walk) (links : List Link) → Some links ≡ chain_if (Some walk) → walk ≡ Chain links
chain_is (Chain others) links e = ap (λ (all : List Link). Chain all) (ap (links_if links) (sym e))
chain_is (Absent own) links e = absurd (cc e)
chain_is Loop links e = absurd (cc e)

pub chain_there : (walks : List Walk) (index : ℕ) (d : Walk) (links : List Link) → index < length walks
    → Some links ≡ chain_if (slice_get walks index)
    → get_or walks index d ≡ Chain links
chain_there walks index d links h e = chain_is (get_or walks index d) links (e ∙ ap chain_if (slice_get-get_or walks index d h))

no_chain : (walk other : Walk) → None ≡ chain_if (Some walk) → together walk other ≡ false
no_chain (Chain links) other e = absurd (cc e)
no_chain (Absent own) other e = refl
no_chain Loop other e = refl

pub never_there : (walks : List Walk) (index : ℕ) (d other : Walk) → index < length walks → None ≡ chain_if (slice_get walks index)
    → together (get_or walks index d) other ≡ false
never_there walks index d other h e = no_chain (get_or walks index d) other (e ∙ ap chain_if (slice_get-get_or walks index d h))
