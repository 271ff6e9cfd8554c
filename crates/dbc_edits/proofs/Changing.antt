-- The first items of a list put through a change.
use Rattle.std.proofs.Common.{◌≡◌, ℕ, zero, suc, ◌+◌, ◌<◌, List, [], ◌∷◌, length, map, get_or, refl, sym, ap, ◌∙◌, arith}
use Rattle.std.specs.Prelude.{slice_set}

abbrev pub first_changed : {X : Type 0} → (X → X) → ℕ → List X → List X
first_changed f zero items = items
first_changed f (suc count) [] = []
first_changed f (suc count) (item ∷ items) = f item ∷ first_changed f count items

pub as_many : {X : Type 0} (f : X → X) (count : ℕ) (items : List X) → length (first_changed f count items) ≡ length items
as_many f zero items = refl
as_many f (suc count) [] = refl
as_many f (suc count) (item ∷ items) = ap suc (as_many f count items)

-- what is after them is as it was
pub next_is : {X : Type 0} (f : X → X) (count : ℕ) (items : List X) (d : X) → get_or (first_changed f count items) count d
    ≡ get_or items count d
next_is f zero items d = refl
next_is f (suc count) [] d = refl
next_is f (suc count) (item ∷ items) d = next_is f count items d

set_next : {X : Type 0} (f : X → X) (count : ℕ) (items : List X) (d : X) → count < length items
    → slice_set (first_changed f count items) count (f (get_or items count d)) ≡ first_changed f (suc count) items
set_next f zero [] d within = absurd (omega (arith, within))
set_next f zero (item ∷ items) d within = refl
set_next f (suc count) [] d within = absurd (omega (arith, within))
set_next f (suc count) (item ∷ items) d within = ap (λ rest. f item ∷ rest) (set_next f count items d (omega (arith, within)))

keep_next : {X : Type 0} (f : X → X) (count : ℕ) (items : List X) (d : X) → count < length items → get_or items count d
    ≡ f (get_or items count d) → first_changed f count items ≡ first_changed f (suc count) items
keep_next f zero [] d within same = absurd (omega (arith, within))
keep_next f zero (item ∷ items) d within same = ap (λ first. first ∷ items) same
keep_next f (suc count) [] d within same = absurd (omega (arith, within))
keep_next f (suc count) (item ∷ items) d within same = ap (λ rest. f item ∷ rest) (keep_next f count items d (omega (arith, within))
    same)

pub one_set : {X : Type 0} (f : X → X) (count : ℕ) (items : List X) (d : X) → count < length items
    → slice_set (first_changed f count items) count (f (get_or items count d)) ≡ first_changed f (count + 1) items
one_set f count items d within = let next : count + 1 ≡ suc count = omega arith in rw next (set_next f count items d within)

pub one_kept : {X : Type 0} (f : X → X) (count : ℕ) (items : List X) (d : X) → count < length items → get_or items count d
    ≡ f (get_or items count d) → first_changed f count items ≡ first_changed f (count + 1) items
one_kept f count items d within same = let next : count + 1 ≡ suc count = omega arith in
    rw next (keep_next f count items d within same)

pub all_changed : {X : Type 0} (f : X → X) (items : List X) → first_changed f (length items) items ≡ map f items
all_changed f [] = refl
all_changed f (item ∷ items) = ap (λ rest. f item ∷ rest) (all_changed f items)
