-- The first element of a key: in a list, in its stably sorted form, and in a list in the order of its keys.
use Rattle.std.proofs.Common.{◌≡◌, ◌&&◌, ◌<◌, ◌≤◌, Bool, true, false, true≢false, not, ℕ, suc, zero, List, [], ◌∷◌, Option}
use Rattle.std.proofs.Common.{Some, None, cond, filter, map, length, get_or, refl, ap, sym, ◌∙◌, arith, ◌⊎◌, inl, inr, ⊎_elim}
use Rattle.std.specs.List.{find, All, AllWithin}
use Rattle.std.specs.Option.{option_map}
use Rattle.std.specs.List.Sorted.{ties, IsStableBy, IsSortedBy, IsPartitionedBy, IsNonDecreasingBy}
use Rattle.std.specs.declared.cmp.Ordering.{Ordering}
use Rattle.std.specs.declared.cmp.Ordering.TheVariants.{Less, Equal, Greater}
use Rattle.std.specs.Ordering.{is_lt, is_eq, ordering_reverse, ordering_index}
use Rattle.std.specs.Cmp.{IsTotalOrder, Equal-is}
use Rattle.std.proofs.lemmas.Cmp.{alike_right}
use Rattle.std.proofs.lemmas.List.Elements.{filter_agree}
use Rattle.std.proofs.lemmas.List.Sorted.{searchable_from_sorted}
use Rattle.std.proofs.lemmas.List.{get_or_default}
use Rattle.std.proofs.lemmas.Bool.{cases_lt}

-- ---- what is found first

module _ {X : Type 0} where
  -- the first element, if there is one
  abbrev first : List X → Option X
  first [] = None
  first (x ∷ xs) = Some x

  module _ (p : X → Bool) where
    find-filter : (xs : List X) → find p xs ≡ first (filter p xs)
    find-filter [] = refl
    find-filter (x ∷ xs) =
        elim (p x) as (λ b. cond b (Some x) (find p xs) ≡ first (cond b (x ∷ filter p xs) (filter p xs))) [
          | true ↦ refl
          | false ↦ find-filter xs
        ]

    find_cases : (xs : List X) → (find p xs ≡ None) ⊎ ((x : X) × (find p xs ≡ Some x) × (p x ≡ true))
    find_cases [] = inl refl
    find_cases (x ∷ xs) = by (p x) refl (find_cases xs)
      where
        by : (b : Bool) → p x ≡ b → (find p xs ≡ None) ⊎ ((y : X) × (find p xs ≡ Some y) × (p y ≡ true))
            → (cond b (Some x) (find p xs) ≡ None) ⊎ ((y : X) × (cond b (Some x) (find p xs) ≡ Some y) × (p y ≡ true))
        by true e rest = inr (x, refl, e)
        by false e rest = rest

    -- elements that pass are in the same order
    pub find-stable : (lt : X → X → Bool) → ((x : X) → p x ≡ true → (y : X) → ties lt x y ≡ p y) → (xs ys : List X)
        → IsStableBy lt xs ys → find p ys ≡ find p xs
    find-stable lt tied xs ys stable =
        let agree : (x : X) → p x ≡ true → (zs : List X) → filter p zs ≡ filter (ties lt x) zs =
        λ x passes zs. filter_agree p (ties lt x) (λ y. sym (tied x passes y)) zs in
        let same : (x : X) → p x ≡ true → find p ys ≡ find p xs =
        λ x passes. find-filter ys ∙ ap first (agree x passes ys ∙ stable x ∙ sym (agree x passes xs)) ∙ sym (find-filter xs) in
        ⊎_elim
        (λ none. ⊎_elim (λ other. none ∙ sym other) (λ found. same found.0 found.2) (find_cases xs))
        (λ found. same found.0 found.2) (find_cases ys)

    pub find-same : (q : X → Bool) (xs : List X) → All (λ x. p x ≡ q x) xs → find p xs ≡ find q xs
    find-same q [] same = refl
    find-same q (x ∷ xs) same =
        ap (λ b. cond b (Some x) (find p xs)) (same 0 x (omega arith))
        ∙ ap (λ o. cond (q x) (Some x) o) (find-same q xs (λ k d l. same (suc k) d (omega arith)))

    pub find-map : {Y : Type 0} (f : Y → X) (ys : List Y) → find p (map f ys) ≡ option_map f (find (λ y. p (f y)) ys)
    find-map f [] = refl
    find-map f (y ∷ ys) =
        elim (p (f y)) as (λ b. cond b (Some (f y)) (find p (map f ys)) ≡ option_map f (cond b (Some y) (find (λ y. p (f y)) ys))) [
          | true ↦ refl
          | false ↦ find-map f ys
        ]

    pub find_none : (xs : List X) → All (λ x. p x ≡ false) xs → find p xs ≡ None
    find_none [] none = refl
    find_none (x ∷ xs) none =
        ap (λ b. cond b (Some x) (find p xs)) (none 0 x (omega arith)) ∙ find_none xs (λ k d l. none (suc k) d (omega arith))

    pub find_one : (xs : List X) (i : ℕ) (d : X) → i < length xs → AllWithin (λ x. p x ≡ false) xs 0 i
        → p (get_or xs i d) ≡ true → find p xs ≡ Some (get_or xs i d)
    find_one [] i d lt before here = absurd (omega arith)
    find_one (x ∷ xs) zero d lt before here = ap (λ b. cond b (Some x) (find p xs)) here
    find_one (x ∷ xs) (suc i) d lt before here =
        ap (λ b. cond b (Some x) (find p xs)) (before 0 x (omega arith) (omega arith))
        ∙ find_one xs i d (omega arith) (λ k e least below. before (suc k) e (omega arith) (omega arith)) here

-- ---- by keys in a total order

own_order : (r : Ordering) → (not (is_lt (ordering_reverse r)) && not (is_lt r)) ≡ is_eq r
own_order Less = refl
own_order Equal = refl
own_order Greater = refl

less_is_other : (r : Ordering) → is_lt r ≡ true → is_eq r ≡ false
less_is_other Less e = refl
less_is_other Equal e = sym e
less_is_other Greater e = refl

less_before : (r s : Ordering) → ordering_index r ≤ ordering_index s → is_lt s ≡ true → is_lt r ≡ true
less_before Less s rises e = refl
less_before Equal Less rises e = absurd (omega arith)
less_before Equal Equal rises e = e
less_before Equal Greater rises e = e
less_before Greater Less rises e = absurd (omega arith)
less_before Greater Equal rises e = e
less_before Greater Greater rises e = e

other_after : (r s : Ordering) → ordering_index r ≤ ordering_index s → is_lt r ≡ false → is_eq r ≡ false → is_eq s ≡ false
other_after Less s rises least other = absurd (true≢false least)
other_after Equal s rises least other = absurd (true≢false other)
other_after Greater Less rises least other = refl
other_after Greater Equal rises least other = absurd (omega arith)
other_after Greater Greater rises least other = refl

module _ {X K : Type 0} {R : K → K → Ordering} (o : IsTotalOrder R) (key : X → K) where
  pub tied : (t : K) (x : X) → is_eq (R (key x) t) ≡ true → (y : X)
      → ties (λ x y. is_lt (R (key x) (key y))) x y ≡ is_eq (R (key y) t)
  tied t x passes y =
      let equal : R (key x) t ≡ Equal = (Equal-is (R (key x) t)).0 passes in
      let ahead : R (key x) (key y) ≡ ordering_reverse (R (key y) t) = o.congr (key x) t (key y) equal ∙ o.antisymm t (key y) in
      let back : R (key y) (key x) ≡ R (key y) t = alike_right o (key x) t (key y) equal in
      ap (λ r. not (is_lt r) && not (is_lt (R (key y) (key x)))) ahead
      ∙ ap (λ r. not (is_lt (ordering_reverse (R (key y) t))) && not (is_lt r)) back
      ∙ own_order (R (key y) t)

  module _ (t : K) (xs : List X) (sorted : IsSortedBy (λ x y. is_lt (R (key x) (key y))) xs) where
    rises : IsNonDecreasingBy (λ y. ordering_index (R (key y) t)) xs
    rises = searchable_from_sorted o key xs t sorted

    pub parted : IsPartitionedBy (λ y. is_lt (R (key y) t)) xs
    parted i j d le below less = less_before (R (key (get_or xs i d)) t) (R (key (get_or xs j d)) t) (rises i j d le below) less

    -- all before an index come before the key
    module _ (i : ℕ) (ahead : AllWithin (λ y. is_lt (R (key y) t) ≡ true) xs 0 i) where
      before : AllWithin (λ y. is_eq (R (key y) t) ≡ false) xs 0 i
      before k d least below = less_is_other (R (key (get_or xs k d)) t) (ahead k d least below)

      pub first_there : (d : X) → i < length xs → is_eq (R (key (get_or xs i d)) t) ≡ true
          → find (λ y. is_eq (R (key y) t)) xs ≡ Some (get_or xs i d)
      first_there d below here = find_one (λ y. is_eq (R (key y) t)) xs i d below before here

      pub none_at_end : length xs ≤ i → find (λ y. is_eq (R (key y) t)) xs ≡ None
      none_at_end end = find_none (λ y. is_eq (R (key y) t)) xs (λ k d below. before k d (omega arith) (omega arith))

      pub none_there : (d : X) → i < length xs → is_lt (R (key (get_or xs i d)) t) ≡ false
          → is_eq (R (key (get_or xs i d)) t) ≡ false → find (λ y. is_eq (R (key y) t)) xs ≡ None
      none_there d below least other =
          find_none (λ y. is_eq (R (key y) t)) xs (λ k e within. ⊎_elim
          (λ less. before k e (omega arith) less)
          (λ after. let same : get_or xs i e ≡ get_or xs i d = get_or_default xs i e d below in
          other_after (R (key (get_or xs i e)) t) (R (key (get_or xs k e)) t) (rises i k e after within)
          (ap (λ y. is_lt (R (key y) t)) same ∙ least) (ap (λ y. is_eq (R (key y) t)) same ∙ other)) (cases_lt k i))
