-- Loops over the elements of a list, each with its index.
use Rattle.std.proofs.Common.{◌≡◌, ℕ, ◌+◌, ◌<◌, List, [], ◌∷◌, ◌++◌, map, take, length, get_or, take_all, ap, sym, ◌∙◌, arith}
use Rattle.std.proofs.Math.Nat.{le_refl}
use Rattle.std.specs.List.{enumerate_from, flat_map}
use Rattle.std.proofs.lemmas.List.{map_more, flat_map_more, take_more}
use Rattle.std.proofs.lemmas.List.FromFn.{length-enumerate_from, get_or-enumerate_from}

module _ {X Y : Type 0} (f : ℕ × X → Y) (xs : List X) where
  -- one element more
  pub more_placed : (i : ℕ) (d : X) → i < length xs → map f (take (i + 1) (enumerate_from 0 xs))
      ≡ map f (take i (enumerate_from 0 xs)) ++ f (i, get_or xs i d) ∷ []
  more_placed i d within =
      let long : i < length (enumerate_from 0 xs) = rw (length-enumerate_from 0 xs) within in
      let here : 0 + i ≡ i = omega arith in
      map_more f (enumerate_from 0 xs) i (0, d) long ∙ ap (λ p. map f (take i (enumerate_from 0 xs)) ++ f p ∷ [])
      (get_or-enumerate_from 0 xs i (0, d) within ∙ ap (λ (k : ℕ). (k, get_or xs i d)) here)

  -- all of them
  pub all_placed : (i : ℕ) → i ≡ length xs → map f (take i (enumerate_from 0 xs)) ≡ map f (enumerate_from 0 xs)
  all_placed i all =
      ap (λ placed. map f placed) (take_all i (enumerate_from 0 xs) (rw (all, length-enumerate_from 0 xs) (le_refl (length xs))))

-- one element's text more
pub more_text : {X : Type 0} (f : ℕ × X → List ℕ) (xs : List X) (i : ℕ) (d : X) → i < length xs → (before so_far now : List ℕ)
    → so_far ≡ before ++ flat_map f (take i (enumerate_from 0 xs)) → now ≡ so_far ++ f (i, get_or xs i d)
    → now ≡ before ++ flat_map f (take (i + 1) (enumerate_from 0 xs))
more_text f xs i d within before so_far now is next =
    let long : i < length (enumerate_from 0 xs) = rw (length-enumerate_from 0 xs) within in
    let here : get_or (enumerate_from 0 xs) i (0, d) ≡ (i, get_or xs i d) = get_or-enumerate_from 0 xs i (0, d) within
    ∙ ap (λ (k : ℕ). (k, get_or xs i d)) (omega arith) in
    next ∙ ap (λ text. text ++ f (i, get_or xs i d)) is ∙ flat_map_more f before (take i (enumerate_from 0 xs)) (i, get_or xs i d)
    ∙ ap (λ placed. before ++ flat_map f placed) (sym (take_more (enumerate_from 0 xs) i (0, d) long
    ∙ ap (λ p. take i (enumerate_from 0 xs) ++ p ∷ []) here))

pub all_text : {X : Type 0} (f : ℕ × X → List ℕ) (xs : List X) (i : ℕ) → i ≡ length xs → (before now : List ℕ)
    → now ≡ before ++ flat_map f (take i (enumerate_from 0 xs)) → now ≡ before ++ flat_map f (enumerate_from 0 xs)
all_text f xs i all before now is = is ∙ ap (λ placed. before ++ flat_map f placed) (take_all i (enumerate_from 0 xs)
    (rw (all, length-enumerate_from 0 xs) (le_refl (length xs))))
