-- Lists made item by item.
use Rattle.std.proofs.Common.{◌≡◌, ℕ, ◌+◌, List, [], ◌∷◌, ◌++◌, take, map, Some, slice_get, sym, ap, ◌∙◌}
use Rattle.std.specs.Option.{option_map}
use Rattle.std.proofs.lemmas.Option.{slice_get_within, get_or_from_slice_get, slice_get-map}
use Rattle.std.proofs.lemmas.List.{take_more, map-append}

take_next : {A : Type 0} (items : List A) (i : ℕ) (item : A) → Some item ≡ slice_get items i
    → take (i + 1) items ≡ take i items ++ item ∷ []
take_next items i item is =
    take_more items i item (slice_get_within items i item (sym is))
    ∙ ap (λ one. take i items ++ one ∷ []) (get_or_from_slice_get items i item item (sym is))

-- one item more
pub item_pushed : {A : Type 0} (items : List A) (index : ℕ) (item : A) (old new : List A) → new ≡ old ++ item ∷ []
    → old ≡ take index items → Some item ≡ slice_get items index → new ≡ take (index + 1) items
item_pushed items index item old new last so_far here =
    last ∙ ap (λ front. front ++ item ∷ []) so_far ∙ sym (take_next items index item here)

-- one more of what is made of items
pub made_pushed : {A B : Type 0} (f : A → B) (items : List A) (index : ℕ) (item : A) (made : B) (old new : List B)
    → new ≡ old ++ made ∷ [] → old ≡ map f (take index items) → made ≡ f item → Some item ≡ slice_get items index
    → new ≡ map f (take (index + 1) items)
made_pushed f items index item made old new last so_far is here =
    last ∙ ap (λ front. front ++ made ∷ []) so_far ∙ ap (λ one. map f (take index items) ++ one ∷ []) is
    ∙ sym (ap (map f) (take_next items index item here) ∙ map-append f (take index items) (item ∷ []))

-- what is made of the item at an index
pub made_at : {A B : Type 0} (f : A → B) (items : List A) (all : List B) (index : ℕ) (made : B) (item : A) → all ≡ map f items
    → Some made ≡ slice_get all index → Some item ≡ slice_get items index → made ≡ f item
made_at f items all index made item are found here =
    let same : Some made ≡ Some (f item) =
    found ∙ ap (λ all. slice_get all index) are ∙ slice_get-map f items index ∙ ap (option_map f) (sym here) in
    cc
