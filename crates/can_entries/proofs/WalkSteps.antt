-- The multiplexing chain from a signal, link by link.
use Rattle.std.proofs.Common.{◌≡◌, ◌==◌, ℕ, zero, suc, ◌-◌, ◌<◌, true, false, List, [], ◌∷◌, ◌++◌, length, refl, ap, sym, ◌∙◌}
use Rattle.std.proofs.Common.{arith}
use Rattle.can_entries.specs.Links.{Link}
use Rattle.can_entries.specs.Walks.{mux_parent_at, with_link, walk_mux_parent, walk_up}
use Rattle.can_entries.specs.declared.mux_parent.MuxParent.{MuxParent}
use Rattle.can_entries.specs.declared.mux_parent.MuxParent.TheVariants.{Nothing, Missing, Switch}
use Rattle.can_entries.specs.declared.walk.Walk.{Walk}
use Rattle.can_entries.specs.declared.walk.Walk.TheVariants.{Chain, Absent, Loop}

-- the walk that begins with these links
abbrev pub links_then : List Link → Walk → Walk
links_then [] walk = walk
links_then (link ∷ links) walk = with_link link (links_then links walk)

pub links_then-chain : (links : List Link) → links_then links (Chain []) ≡ Chain links
links_then-chain [] = refl
links_then-chain (link ∷ links) = ap (λ walk. with_link link walk) (links_then-chain links)

pub links_then-absent : (links : List Link) → links_then links (Absent true) ≡ Absent (length links == 0)
links_then-absent [] = refl
links_then-absent (link ∷ links) =
    let some : (length (link ∷ links) == 0) ≡ false = grind arith in
    ap (λ walk. with_link link walk) (links_then-absent links) ∙ ap (λ own. Absent own) (sym some)

pub links_then-loop : (links : List Link) → links_then links Loop ≡ Loop
links_then-loop [] = refl
links_then-loop (link ∷ links) = ap (λ walk. with_link link walk) (links_then-loop links)

pub links_then-push : (links : List Link) (link : Link) (walk : Walk) → links_then (links ++ link ∷ []) walk
    ≡ links_then links (with_link link walk)
links_then-push [] link walk = refl
links_then-push (first ∷ links) link walk = ap (λ walk. with_link first walk) (links_then-push links link walk)

module _ (mux_parents : List MuxParent) where
  -- one signal further
  pub walk_step : (n : ℕ) (index : ℕ) → 0 < n → walk_up n mux_parents index ≡ walk_mux_parent (mux_parent_at mux_parents index)
      (walk_up (n - 1) mux_parents)
  walk_step zero index some = let no : ⊥ = omega arith in absurd no
  walk_step (suc n) index some = let less : suc n - 1 ≡ n = omega arith in rw less refl

  -- one turn of the code
  module _ (n : ℕ) (index : ℕ) (links : List Link) (walk : Walk) (so_far : walk ≡ links_then links (walk_up n mux_parents index))
    where
      round : (mux_parent : MuxParent) → 0 < n → mux_parent_at mux_parents index ≡ mux_parent
          → walk ≡ links_then links (walk_mux_parent mux_parent (walk_up (n - 1) mux_parents))
      round mux_parent some is = so_far ∙ ap (λ walk. links_then links walk) (walk_step n index some
          ∙ ap (λ mux_parent. walk_mux_parent mux_parent (walk_up (n - 1) mux_parents)) is)

      pub at_top : 0 < n → mux_parent_at mux_parents index ≡ Nothing → Chain links ≡ walk
      at_top some is = sym (round Nothing some is ∙ links_then-chain links)

      pub at_missing : 0 < n → mux_parent_at mux_parents index ≡ Missing → Absent (length links == 0) ≡ walk
      at_missing some is = sym (round Missing some is ∙ links_then-absent links)

      pub at_switch : (link : Link) → 0 < n → mux_parent_at mux_parents index ≡ Switch link → walk ≡ links_then (links ++ link ∷ [])
          (walk_up (n - 1) mux_parents link.switch)
      at_switch link some is = round (Switch link) some is ∙ sym (links_then-push links link (walk_up (n - 1) mux_parents
          link.switch))

      pub at_end : n ≡ 0 → Loop ≡ walk
      at_end none = sym (so_far ∙ ap (λ n. links_then links (walk_up n mux_parents index)) none ∙ links_then-loop links)
