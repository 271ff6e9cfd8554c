-- What is found of a list: of the items before one, of this one, and of those after.
use Rattle.std.proofs.Common.{◌≡◌, ℕ, zero, suc, ◌+◌, ◌-◌, ◌<◌, List, [], ◌∷◌, ◌++◌, take, drop, length, get_or, refl, sym, ap, ◌∙◌}
use Rattle.std.proofs.Common.{append-nil, take-append-drop, arith}
use Rattle.std.specs.List.{flat_map, range_with_len}
use Rattle.std.proofs.lemmas.List.{take_more}
use Rattle.std.proofs.lemmas.List.Concat.{flat_map-append}
use Rattle.dbc_records.specs.Records.{Message}
use Rattle.can_bits.specs.declared.field.Field.{Field}
use Rattle.can_entries.specs.declared.walk.Walk.{Walk}
use Rattle.can_diagnostics.specs.declared.diagnostic.Diagnostic.{Diagnostic}
use Rattle.can_overlap.specs.inner.Occupancy.{Marked}
use Rattle.can_overlap.specs.Overlaps.{overlapping, pairs_from}
use Rattle.can_check.specs.MessageFaults.{pair_at}

module _ {X Y : Type 0} (f : X → List Y) where
  pub of_one : (x : X) → flat_map f (x ∷ []) ≡ f x
  of_one x = append-nil (f x)

  pub of_parts : (xs : List X) (i : ℕ) (x : X) → i < length xs → x ≡ get_or xs i x
      → flat_map f xs ≡ (flat_map f (take i xs) ++ f x) ++ flat_map f (drop (i + 1) xs)
  of_parts xs i x within is =
      ap (flat_map f) (sym (take-append-drop (i + 1) xs)) ∙ flat_map-append f (take (i + 1) xs) (drop (i + 1) xs)
      ∙ ap (λ (ys : List Y). ys ++ flat_map f (drop (i + 1) xs)) (ap (flat_map f) (take_more xs i x within)
      ∙ flat_map-append f (take i xs) (get_or xs i x ∷ []) ∙ ap (λ (ys : List Y). flat_map f (take i xs) ++ ys)
      (of_one (get_or xs i x)) ∙ ap (λ y. flat_map f (take i xs) ++ f y) (sym is))

range_parts : (a i n : ℕ) → range_with_len a (i + n) ≡ range_with_len a i ++ range_with_len (a + i) n
range_parts a zero n = let same : a + 0 ≡ a = omega arith in let all : 0 + n ≡ n = omega arith in rw (same, all) refl
range_parts a (suc i) n =
    let all : suc i + n ≡ suc (i + n) = omega arith in
    let here : a + suc i ≡ (a + 1) + i = omega arith in
    rw (all, here) (ap (λ (ns : List ℕ). a ∷ ns) (range_parts (a + 1) i n))

module _ {Y : Type 0} (f : ℕ → List Y) where
  pub of_numbers : (i n : ℕ) → flat_map f (range_with_len 0 (i + n))
      ≡ flat_map f (range_with_len 0 i) ++ flat_map f (range_with_len i n)
  of_numbers i n = let from : 0 + i ≡ i = omega arith in
      ap (flat_map f) (range_parts 0 i n ∙ ap (λ (k : ℕ). range_with_len 0 i ++ range_with_len k n) from)
      ∙ flat_map-append f (range_with_len 0 i) (range_with_len i n)

  -- one index more
  pub of_next : (i : ℕ) → flat_map f (range_with_len 0 (i + 1)) ≡ flat_map f (range_with_len 0 i) ++ f i
  of_next i = of_numbers i 1 ∙ ap (λ (ys : List Y). flat_map f (range_with_len 0 i) ++ ys) (append-nil (f i))

  pub of_all : (i n : ℕ) → i < n → flat_map f (range_with_len 0 n)
      ≡ (flat_map f (range_with_len 0 i) ++ f i) ++ flat_map f (range_with_len (i + 1) (n - (i + 1)))
  of_all i n within =
      let all : (i + 1) + (n - (i + 1)) ≡ n = omega arith in
      ap (λ (k : ℕ). flat_map f (range_with_len 0 k)) (sym all) ∙ of_numbers (i + 1) (n - (i + 1))
      ∙ ap (λ (ys : List Y). ys ++ flat_map f (range_with_len (i + 1) (n - (i + 1)))) (of_next i)

-- what is found of each of what is found of each
pub of_lists : {X Y Z : Type 0} (f : Y → List Z) (g : X → List Y) (xs : List X)
    → flat_map f (flat_map g xs) ≡ flat_map (λ x. flat_map f (g x)) xs
of_lists f g [] = refl
of_lists {Z = Z} f g (x ∷ xs) =
    flat_map-append f (g x) (flat_map g xs) ∙ ap (λ (zs : List Z). flat_map f (g x) ++ zs) (of_lists f g xs)

-- the pairs of all signals of a message are those of each signal but the last
pub pairs_of_all : (m : Message) (fields : List Field) (walks : List Walk) (marked : Marked) (count : ℕ)
    → overlapping fields walks ≡ flat_map (pairs_from fields walks) (range_with_len 0 (length fields - 1))
    → count ≡ length fields - 1 → marked ≡ record { fields = fields; walks = walks }
    → flat_map (λ first. flat_map (pair_at m) (pairs_from marked.fields marked.walks first)) (range_with_len 0 count)
    ≡ flat_map (pair_at m) (overlapping fields walks)
pairs_of_all m fields walks marked count all so_many is =
    let from : Marked → ℕ → List Diagnostic = λ marked first. flat_map (pair_at m) (pairs_from marked.fields marked.walks first) in
    ap (λ (marked : Marked). flat_map (from marked) (range_with_len 0 count)) is
    ∙ sym (of_lists (pair_at m) (pairs_from fields walks) (range_with_len 0 count))
    ∙ ap (λ (n : ℕ). flat_map (pair_at m) (flat_map (pairs_from fields walks) (range_with_len 0 n))) so_many
    ∙ ap (flat_map (pair_at m)) (sym all)
