-- What is made of the items that pass a test.
use Rattle.std.proofs.Common.{◌≡◌, ℕ, zero, suc, ◌+◌, Bool, true, false, cond, if◌then◌else◌, List, [], ◌∷◌, ◌++◌, Some, None}
use Rattle.std.proofs.Common.{take, slice_get}
use Rattle.std.proofs.Common.{filter, sym, ap, ◌∙◌, refl, append_assoc, append-nil, arith}
use Rattle.std.specs.List.{flat_map}
use Rattle.can_json_texts.proofs.Appended.{appended_then}

module _ {A B : Type 0} (p : A → Bool) (f : A → List B) where
  taken : (items : List A) (index : ℕ) (item : A) → Some item ≡ slice_get items index
      → flat_map f (filter p (take index items)) ++ (if p item then f item else []) ≡ flat_map f (filter p (take (suc index) items))
  taken [] index item here = absurd (let missing : Some item ≡ None = here in cc)
  taken (x ∷ items) zero item here =
      let same : item ≡ x = cc in
      ap (λ one. if p one then f one else []) same ∙ first (p x)
    where
      first : (b : Bool) → (if b then f x else []) ≡ flat_map f (cond b (x ∷ []) [])
      first true = sym (append-nil (f x))
      first false = refl
  taken (x ∷ items) (suc index) item here = by (p x) (taken items index item here)
    where
      by : (b : Bool) → flat_map f (filter p (take index items)) ++ (if p item then f item else [])
          ≡ flat_map f (filter p (take (suc index) items))
          → flat_map f (cond b (x ∷ filter p (take index items)) (filter p (take index items))) ++ (if p item then f item else [])
          ≡ flat_map f (cond b (x ∷ filter p (take (suc index) items)) (filter p (take (suc index) items)))
      by true rest =
          append_assoc (f x) (flat_map f (filter p (take index items))) (if p item then f item else [])
          ∙ ap (λ text. f x ++ text) rest
      by false rest = rest

  -- one item more
  pub filtered_pushed : (items : List A) (index : ℕ) (item : A) (old mid new : List B)
      → new ≡ mid ++ (if p item then f item else [])
      → mid ≡ old ++ flat_map f (filter p (take index items)) → Some item ≡ slice_get items index
      → new ≡ old ++ flat_map f (filter p (take (index + 1) items))
  filtered_pushed items index item old mid new last so_far here =
      appended_then old mid new (flat_map f (filter p (take index items))) (if p item then f item else []) last so_far
      ∙ ap (λ text. old ++ text) (taken items index item here)
      ∙ ap (λ count. old ++ flat_map f (filter p (take count items))) (let one : suc index ≡ index + 1 = omega arith in one)
