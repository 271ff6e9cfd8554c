-- What is found of items, given those before, one part of a list after another.
use Rattle.std.proofs.Common.{◌≡◌, ◌+◌, ◌<◌, ℕ, List, [], ◌∷◌, ◌++◌, map, take, length, get_or, sym, ap, ◌∙◌, append_assoc}
use Rattle.std.proofs.Common.{append-nil}
use Rattle.std.proofs.lemmas.List.{map_more}
use Rattle.can_references.specs.Finding.{each_after}

pub each_after-append : {X Y : Type 0} (f : List X → X → List Y) (before xs ys : List X) → each_after f before (xs ++ ys)
    ≡ each_after f before xs ++ each_after f (before ++ xs) ys
each_after-append f before [] ys = ap (λ b. each_after f b ys) (sym (append-nil before))
each_after-append f before (x ∷ xs) ys =
    ap (λ r. f before x ++ r) (each_after-append f (before ++ x ∷ []) xs ys
    ∙ ap (λ b. each_after f (before ++ x ∷ []) xs ++ each_after f b ys) (append_assoc before (x ∷ []) xs))
    ∙ sym (append_assoc (f before x) (each_after f (before ++ x ∷ []) xs) (each_after f (before ++ (x ∷ xs)) ys))

-- the later part is first, so that the tactics find what is between
pub after_then : {X Y : Type 0} (f : List X → X → List Y) (found mid now : List Y) (before seen xs ys : List X)
    → now ≡ mid ++ each_after f seen ys → mid ≡ found ++ each_after f before xs → seen ≡ before ++ xs
    → now ≡ found ++ each_after f before (xs ++ ys)
after_then f found mid now before seen xs ys q p e =
    q ∙ ap (λ m. m ++ each_after f seen ys) p ∙ append_assoc found (each_after f before xs) (each_after f seen ys)
    ∙ ap (λ s. found ++ (each_after f before xs ++ each_after f s ys)) e
    ∙ ap (λ r. found ++ r) (sym (each_after-append f before xs ys))

-- one more item
pub more_after : {R X Y : Type 0} (f : List X → X → List Y) (key : R → X) (rows : List R) (i : ℕ) (row : R) → i < length rows
    → row ≡ get_or rows i row
    → (before : List X) (found mid now : List Y) (seen seen_now : List X)
    → mid ≡ found ++ each_after f before (map key (take i rows)) → seen ≡ before ++ map key (take i rows)
    → now ≡ mid ++ f seen (key row) → seen_now ≡ seen ++ key row ∷ []
    → (now ≡ found ++ each_after f before (map key (take (i + 1) rows))) × (seen_now ≡ before ++ map key (take (i + 1) rows))
more_after f key rows i row within is before found mid now seen seen_now so_far all more one =
    let next : map key (take (i + 1) rows) ≡ map key (take i rows) ++ key row ∷ [] = map_more key rows i row within
    ∙ ap (λ r. map key (take i rows) ++ key r ∷ []) (sym is) in (
      after_then f found mid now before seen (map key (take i rows)) (key row ∷ []) (more
          ∙ ap (λ r. mid ++ r) (sym (append-nil (f seen (key row))))) so_far all ∙ ap (λ keys. found ++ each_after f before keys)
          (sym next),
      one ∙ ap (λ s. s ++ key row ∷ []) all ∙ append_assoc before (map key (take i rows)) (key row ∷ [])
          ∙ ap (λ keys. before ++ keys) (sym next),
    )
