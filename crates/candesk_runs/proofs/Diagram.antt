-- Texts of items, written one after another.
use Rattle.std.proofs.Common.{◌≡◌, ℕ, ◌+◌, ◌<◌, List, [], ◌∷◌, ◌++◌, take, drop, length, get_or, take-append-drop, append-nil, sym}
use Rattle.std.proofs.Common.{ap, subst, ◌∙◌}
use Rattle.std.specs.List.{flat_map}
use Rattle.std.proofs.lemmas.List.{take_more}
use Rattle.std.proofs.lemmas.List.Concat.{flat_map-append}
use Rattle.byte_devices.specs.Device.{Written, Wrote, Broke}
use Rattle.byte_devices.proofs.Writes.{Wrote-then, Broke-then, Broke-more}

module _ {X : Type 0} (f : X → List ℕ) (xs : List X) (i : ℕ) (d : X) (within : i < length xs) where
  -- the texts of one item more
  one_more : flat_map f (take (i + 1) xs) ≡ flat_map f (take i xs) ++ f (get_or xs i d)
  one_more = ap (λ (xs : List X). flat_map f xs) (take_more xs i d within) ∙ flat_map-append f (take i xs) (get_or xs i d ∷ [])
      ∙ ap (λ (text : List ℕ). flat_map f (take i xs) ++ text) (append-nil (f (get_or xs i d)))

  pub Wrote-item : (a b c : Written) → Wrote a b (flat_map f (take i xs)) → Wrote b c (f (get_or xs i d))
      → Wrote a c (flat_map f (take (i + 1) xs))
  Wrote-item a b c before item = rw one_more (Wrote-then a b c _ _ before item)

  -- a put that failed within an item's text
  pub Broke-item : (a b c : Written) → Wrote a b (flat_map f (take i xs)) → Broke b c (f (get_or xs i d))
      → Broke a c (flat_map f xs)
  Broke-item a b c before item =
      let all : flat_map f (take (i + 1) xs) ++ flat_map f (drop (i + 1) xs) ≡ flat_map f xs =
      sym (flat_map-append f (take (i + 1) xs) (drop (i + 1) xs))
      ∙ ap (λ (xs : List X). flat_map f xs) (take-append-drop (i + 1) xs) in
      let inside : Broke a c (flat_map f (take (i + 1) xs)) = rw one_more (Broke-then a b c _ _ before item) in
      subst (Broke a c) all (Broke-more a c (flat_map f (take (i + 1) xs)) (flat_map f (drop (i + 1) xs)) inside)
