-- Loops over the elements of a list, each with its index.
use Rattle.std.proofs.Common.{◌≡◌, ℕ, ◌+◌, ◌<◌, List, [], ◌∷◌, ◌++◌, take, length, get_or, take_all, ap, sym, ◌∙◌, arith}
use Rattle.std.proofs.Math.Nat.{le_refl}
use Rattle.std.specs.List.{enumerate_from, flat_map}
use Rattle.std.proofs.lemmas.List.{flat_map_more, take_more}
use Rattle.std.proofs.lemmas.List.FromFn.{length-enumerate_from, get_or-enumerate_from}

module _ {X Y : Type 0} (f : ℕ × X → List Y) (xs : List X) (i : ℕ) where
  -- what is found of one element more
  pub more_found : (d : X) → i < length xs → (before so_far now : List Y)
      → so_far ≡ before ++ flat_map f (take i (enumerate_from 0 xs)) → now ≡ so_far ++ f (i, get_or xs i d)
      → now ≡ before ++ flat_map f (take (i + 1) (enumerate_from 0 xs))
  more_found d within before so_far now is next =
      let long : i < length (enumerate_from 0 xs) = rw (length-enumerate_from 0 xs) within in
      let here : get_or (enumerate_from 0 xs) i (0, d) ≡ (i, get_or xs i d) = get_or-enumerate_from 0 xs i (0, d) within
      ∙ ap (λ (k : ℕ). (k, get_or xs i d)) (omega arith) in
      next ∙ ap (λ found. found ++ f (i, get_or xs i d)) is ∙ flat_map_more f before (take i (enumerate_from 0 xs)) (
        i,
        get_or xs i d,
      )
      ∙ ap (λ placed. before ++ flat_map f placed) (sym (take_more (enumerate_from 0 xs) i (0, d) long
      ∙ ap (λ p. take i (enumerate_from 0 xs) ++ p ∷ []) here))

  -- of all of them
  pub all_found : i ≡ length xs → (before now : List Y) → now ≡ before ++ flat_map f (take i (enumerate_from 0 xs))
      → now ≡ before ++ flat_map f (enumerate_from 0 xs)
  all_found all before now is = is ∙ ap (λ placed. before ++ flat_map f placed) (take_all i (enumerate_from 0 xs)
      (rw (all, length-enumerate_from 0 xs) (le_refl (length xs))))
