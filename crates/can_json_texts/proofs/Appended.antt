-- Lists appended one after another.
use Rattle.std.proofs.Common.{◌≡◌, ℕ, zero, suc, ◌+◌, List, [], ◌∷◌, ◌++◌, Some, None, take, slice_get, ap, sym, ◌∙◌}
use Rattle.std.proofs.Common.{append_assoc, append-nil, arith}
use Rattle.std.specs.List.{flat_map}

pub appended_then : {A : Type 0} (old mid new first second : List A) → new ≡ mid ++ second → mid ≡ old ++ first
    → new ≡ old ++ (first ++ second)
appended_then old mid new first second last begun =
    last ∙ ap (λ front. front ++ second) begun ∙ append_assoc old first second

-- what is made of one item more
pub flat_pushed : {A B : Type 0} (f : A → List B) (items : List A) (index : ℕ) (item : A) (old mid new : List B)
    → new ≡ mid ++ f item
    → mid ≡ old ++ flat_map f (take index items) → Some item ≡ slice_get items index
    → new ≡ old ++ flat_map f (take (index + 1) items)
flat_pushed {A} {B} f items index item old mid new last so_far here =
    appended_then old mid new (flat_map f (take index items)) (f item) last so_far
    ∙ ap (λ text. old ++ text) (taken items index here)
    ∙ ap (λ count. old ++ flat_map f (take count items)) (let one : suc index ≡ index + 1 = omega arith in one)
  where
    taken : (items : List A) (index : ℕ) → Some item ≡ slice_get items index
        → flat_map f (take index items) ++ f item ≡ flat_map f (take (suc index) items)
    taken [] index here = absurd (let missing : Some item ≡ None = here in cc)
    taken (x ∷ items) zero here = let same : item ≡ x = cc in ap f same ∙ sym (append-nil (f x))
    taken (x ∷ items) (suc index) here =
        append_assoc (f x) (flat_map f (take index items)) (f item) ∙ ap (λ text. f x ++ text) (taken items index here)
