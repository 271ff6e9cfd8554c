-- Ranges in order, each with the greatest last number among the ranges up to it.
use Rattle.std.proofs.Common.{◌≡◌, ℕ, zero, suc, ◌-◌, ◌<◌, ◌≤◌, nat_le, max, Bool, true, false, ◌&&◌, ◌||◌, List, [], ◌∷◌}
use Rattle.std.proofs.Common.{◌++◌, length, get_or, refl, sym, ap, subst, ◌∙◌, arith, ⊎_elim}
use Rattle.std.specs.List.{list_any}
use Rattle.std.specs.List.Sorted.{IsNonDecreasingBy, IsPartitionPoint}
use Rattle.std.proofs.lemmas.Bool.{cases_lt, le-leb, lt-leb, leb-true, leb-false}
use Rattle.std.proofs.lemmas.List.{get_or_default}
use Rattle.std.proofs.lemmas.List.Folds.{list_any_at, list_any_none}
use Rattle.std.proofs.lemmas.Grind.{common_steps}
use Rattle.dbc_records.specs.declared.mux_row.Range.{Range}
use Rattle.dbc_records.specs.Ranges.{in_range}
use Rattle.dbc_records.specs.inner.RangeIndexes.{reaching}

-- ---- one range more

-- the greatest last number, or `most`
abbrev pub most_of : ℕ → List Range → ℕ
most_of most [] = most
most_of most (range ∷ ranges) = most_of (max most range.last) ranges

pub most_of-push : (most : ℕ) (ranges : List Range) (range : Range) → most_of most (ranges ++ range ∷ [])
    ≡ max (most_of most ranges) range.last
most_of-push most [] range = refl
most_of-push most (first ∷ ranges) range = most_of-push (max most first.last) ranges range

pub reaching-push : (most : ℕ) (ranges : List Range) (range : Range) → reaching most (ranges ++ range ∷ [])
    ≡ reaching most ranges ++ record { first = range.first; last = max (most_of most ranges) range.last } ∷ []
reaching-push most [] range = refl
reaching-push most (first ∷ ranges) range =
    ap (λ (rest : List Range). record { first = first.first; last = max most first.last } ∷ rest)
    (reaching-push (max most first.last) ranges range)

-- ---- in order

length-reaching : (most : ℕ) (ranges : List Range) → length (reaching most ranges) ≡ length ranges
length-reaching most [] = refl
length-reaching most (range ∷ ranges) = ap suc (length-reaching (max most range.last) ranges)

same_first : (most : ℕ) (ranges : List Range) (i : ℕ) (d : Range) → (get_or (reaching most ranges) i d).first
    ≡ (get_or ranges i d).first
same_first most [] i d = refl
same_first most (range ∷ ranges) zero d = refl
same_first most (range ∷ ranges) (suc i) d = same_first (max most range.last) ranges i d

pub firsts_rise : (ranges : List Range) → IsNonDecreasingBy (λ (range : Range). range.first) ranges
    → IsNonDecreasingBy (λ (range : Range). range.first) (reaching 0 ranges)
firsts_rise ranges rise i j d below within =
    let inside : j < length ranges = subst (λ (n : ℕ). j < n) (length-reaching 0 ranges) within in
    rw (same_first 0 ranges i d, same_first 0 ranges j d) (rise i j d below inside)

at_least : (most : ℕ) (ranges : List Range) (j : ℕ) (d : Range) → j < length (reaching most ranges)
    → most ≤ (get_or (reaching most ranges) j d).last
at_least most [] j d within = let no : ⊥ = omega (arith, within) in absurd no
at_least most (range ∷ ranges) zero d within = grind (arith, common_steps)
at_least most (range ∷ ranges) (suc j) d within =
    let further : max most range.last ≤ (get_or (reaching (max most range.last) ranges) j d).last =
    at_least (max most range.last) ranges j d (omega (arith, within)) in
    grind (arith, common_steps, further)

lasts_from : (most : ℕ) (ranges : List Range) → IsNonDecreasingBy (λ (range : Range). range.last) (reaching most ranges)
lasts_from most [] i j d below within = let no : ⊥ = omega (arith, within) in absurd no
lasts_from most (range ∷ ranges) zero zero d below within = omega arith
lasts_from most (range ∷ ranges) zero (suc j) d below within =
    at_least (max most range.last) ranges j d (omega (arith, within))
lasts_from most (range ∷ ranges) (suc i) zero d below within = let no : ⊥ = omega (arith, below) in absurd no
lasts_from most (range ∷ ranges) (suc i) (suc j) d below within =
    lasts_from (max most range.last) ranges i j d (omega (arith, below)) (omega (arith, within))

pub lasts_rise : (ranges : List Range) → IsNonDecreasingBy (λ (range : Range). range.last) (reaching 0 ranges)
lasts_rise ranges = lasts_from 0 ranges

-- ---- the same numbers

le_max : (raw a b : ℕ) → nat_le raw (max a b) ≡ (nat_le raw a || nat_le raw b)
le_max raw a b = grind (arith, common_steps)

-- what is between the first of these and `most` is found before them
abbrev IsFoundBefore : ℕ → ℕ → Bool → List Range → Type 0
IsFoundBefore raw most before [] = Unit {0}
IsFoundBefore raw most before (range ∷ ranges) = nat_le range.first raw ≡ true → nat_le raw most ≡ true → before ≡ true

by_bits : (before a b c : Bool) → (a ≡ true → b ≡ true → before ≡ true) → (before || (a && (b || c))) ≡ (before || (a && c))
by_bits true a b c found = refl
by_bits false false b c found = refl
by_bits false true false c found = refl
by_bits false true true c found = absurd (let no : false ≡ true = found refl refl in cc)

or_apart : (a b c : Bool) → (a || (b || c)) ≡ ((a || b) || c)
or_apart true b c = refl
or_apart false b c = refl

found_on : (before a b c : Bool) → (a ≡ true → b ≡ true → before ≡ true) → a ≡ true → (b || c) ≡ true
    → (before || (a && c)) ≡ true
found_on true a b c found is some = refl
found_on false true true c found is some = absurd (let no : false ≡ true = found refl refl in cc)
found_on false true false c found is some = some
found_on false false b c found is some = absurd (let no : false ≡ true = is in cc)

before_next : (raw most : ℕ) (before : Bool) (range : Range) (ranges : List Range)
    → IsNonDecreasingBy (λ (range : Range). range.first) (range ∷ ranges)
    → IsFoundBefore raw most before (range ∷ ranges)
    → IsFoundBefore raw (max most range.last) (before || in_range raw range) ranges
before_next raw most before range [] rise found = tt
before_next raw most before range (next ∷ ranges) rise found = λ begun reached.
    let earlier : range.first ≤ next.first = rise 0 1 range (omega arith) (omega arith) in
    let first : nat_le range.first raw ≡ true = le-leb range.first raw (omega (arith, earlier, leb-true next.first raw begun)) in
    found_on before (nat_le range.first raw) (nat_le raw most) (nat_le raw range.last) found first
    (sym (le_max raw most range.last) ∙ reached)

same_after : (raw most : ℕ) (before : Bool) (ranges : List Range) → IsNonDecreasingBy (λ (range : Range). range.first) ranges
    → IsFoundBefore raw most before ranges
    → (before || list_any (in_range raw) (reaching most ranges)) ≡ (before || list_any (in_range raw) ranges)
same_after raw most before [] rise found = refl
same_after raw most before (range ∷ ranges) rise found =
    let here : (before || (nat_le range.first raw && nat_le raw (max most range.last))) ≡ (before || in_range raw range) =
    ap (λ reached. before || (nat_le range.first raw && reached)) (le_max raw most range.last)
    ∙ by_bits before (nat_le range.first raw) (nat_le raw most) (nat_le raw range.last) found in
    or_apart before (nat_le range.first raw && nat_le raw (max most range.last)) _
    ∙ ap (λ b. b || list_any (in_range raw) (reaching (max most range.last) ranges)) here
    ∙ same_after raw (max most range.last) (before || in_range raw range) ranges
    (λ i j d below within. rise (suc i) (suc j) d (omega (arith, below)) (omega (arith, within)))
    (before_next raw most before range ranges rise found)
    ∙ sym (or_apart before (in_range raw range) (list_any (in_range raw) ranges))

and_both : (a b : Bool) → a ≡ true → b ≡ true → (a && b) ≡ true
and_both true true p q = refl
and_both false b p q = p
and_both true false p q = q

following_first : (raw : ℕ) (range : Range) (ranges : List Range)
    → IsNonDecreasingBy (λ (range : Range). range.first) (range ∷ ranges)
    → IsFoundBefore raw range.last (in_range raw range) ranges
following_first raw range [] rise = tt
following_first raw range (next ∷ ranges) rise = λ begun reached.
    let earlier : range.first ≤ next.first = rise 0 1 range (omega arith) (omega arith) in
    let first : nat_le range.first raw ≡ true = le-leb range.first raw (omega (arith, earlier, leb-true next.first raw begun)) in
    and_both (nat_le range.first raw) (nat_le raw range.last) first reached

none_less : (n : ℕ) → max 0 n ≡ n
none_less n = grind (arith, common_steps)

pub same_numbers : (ranges : List Range) → IsNonDecreasingBy (λ (range : Range). range.first) ranges → (raw : ℕ)
    → list_any (in_range raw) (reaching 0 ranges) ≡ list_any (in_range raw) ranges
same_numbers [] rise raw = refl
same_numbers (range ∷ ranges) rise raw =
    ap (λ (most : ℕ). (nat_le range.first raw && nat_le raw most) || list_any (in_range raw) (reaching most ranges))
    (none_less range.last)
    ∙ same_after raw range.last (in_range raw range) ranges
    (λ i j d below within. rise (suc i) (suc j) d (omega (arith, below)) (omega (arith, within)))
    (following_first raw range ranges rise)

-- ---- a number among ranges in order

-- a number is in no range if the last range that begins before it ends before it
no_first : (a b : Bool) → a ≡ false → (a && b) ≡ false
no_first a b is = ap (λ a. a && b) is

no_second : (a b : Bool) → b ≡ false → (a && b) ≡ false
no_second true b is = is
no_second false b is = refl

outside_each : (raw : ℕ) (ranges : List Range) (n : ℕ) → n ≤ length ranges
    → IsNonDecreasingBy (λ (range : Range). range.last) ranges
    → IsPartitionPoint (λ (range : Range). nat_le range.first raw ≡ true) (λ (range : Range). nat_le range.first raw ≡ false)
    ranges n
    → 0 < n → (d : Range) → nat_le raw (get_or ranges (n - 1) d).last ≡ false → (k : ℕ) (e : Range) → k < length ranges
    → in_range raw (get_or ranges k e) ≡ false
outside_each raw ranges n within rise parted some d passed k e inner =
    ⊎_elim
    (λ early.
    let same : get_or ranges k d ≡ get_or ranges k e = get_or_default ranges k d e inner in
    let below : (get_or ranges k d).last ≤ (get_or ranges (n - 1) d).last =
    rise k (n - 1) d (omega (arith, early)) (omega (arith, within, some)) in
    let over : (get_or ranges (n - 1) d).last < raw = leb-false raw (get_or ranges (n - 1) d).last passed in
    subst (λ (range : Range). in_range raw range ≡ false) same
    (no_second (nat_le (get_or ranges k d).first raw) (nat_le raw (get_or ranges k d).last)
    (lt-leb raw (get_or ranges k d).last (omega (arith, below, over)))))
    (λ late. no_first (nat_le (get_or ranges k e).first raw) (nat_le raw (get_or ranges k e).last) (parted.1 k e late inner))
    (cases_lt k n)

-- if `n` of the ranges begin at the number or before it, the last of these decides
pub last_decides : (raw : ℕ) (ranges : List Range) (n : ℕ) → n ≤ length ranges
    → IsNonDecreasingBy (λ (range : Range). range.last) ranges
    → IsPartitionPoint (λ (range : Range). nat_le range.first raw ≡ true) (λ (range : Range). nat_le range.first raw ≡ false)
    ranges n
    → (d : Range) → 0 < n → nat_le raw (get_or ranges (n - 1) d).last ≡ list_any (in_range raw) ranges
last_decides raw ranges n within rise parted d some =
    let inside : n - 1 < length ranges = omega (arith, within, some) in
    elim (nat_le raw (get_or ranges (n - 1) d).last) as (λ reached. nat_le raw (get_or ranges (n - 1) d).last ≡ reached
    → reached ≡ list_any (in_range raw) ranges) [
      | true ↦ λ reached. sym (list_any_at (in_range raw) ranges (n - 1) d inside
          (and_both (nat_le (get_or ranges (n - 1) d).first raw) (nat_le raw (get_or ranges (n - 1) d).last)
          (parted.0 (n - 1) d (omega arith) (omega (arith, some))) reached))
      | false ↦ λ passed. sym (list_any_none (in_range raw) ranges (λ k e inner. outside_each raw ranges n within rise parted
          some d passed k e inner))
    ] refl

pub none_begun : (raw : ℕ) (ranges : List Range) (n : ℕ)
    → IsPartitionPoint (λ (range : Range). nat_le range.first raw ≡ true) (λ (range : Range). nat_le range.first raw ≡ false)
    ranges n
    → n ≡ 0 → false ≡ list_any (in_range raw) ranges
none_begun raw ranges n parted none =
    sym (list_any_none (in_range raw) ranges (λ k e inner. no_first (nat_le (get_or ranges k e).first raw)
    (nat_le raw (get_or ranges k e).last) (parted.1 k e (omega (arith, none)) inner)))
