-- The first index at which a test passes: what is there when an entry is set, or a signal is replaced by another.
use Rattle.std.proofs.Common.{◌≡◌, ℕ, suc, ◌+◌, ◌<◌, ◌≤◌, Bool, true, false, List, [], ◌∷◌, length, refl, inl, inr, arith}
use Rattle.std.specs.Prelude.{◌||◌, insert}
use Rattle.std.specs.List.{list_any, position_or_len}
use Rattle.std.proofs.lemmas.Bool.{cases_Bool, both_ways}
use Rattle.dbc_edits.specs.Rows.{without, with_item}

pub one_more : (n : ℕ) → 1 + n ≡ suc n
one_more n = omega arith

pub within : {X : Type 0} (test : X → Bool) (items : List X) → position_or_len test items ≤ length (without test items)
within test [] = omega arith
within test (item ∷ items) =
    elim (cases_Bool (test item)) [
      | inl t ↦ rw t (omega arith)
      | inr f ↦ rw f (omega (arith, within test items))
    ]

pub placed : {X : Type 0} (test : X → Bool) (item : X) (items : List X) → insert (without test items) (position_or_len test items)
    item ≡ with_item test item items
placed test item [] = refl
placed test item (first ∷ items) =
    elim (cases_Bool (test first)) [
      | inl t ↦ rw t refl
      | inr f ↦ rw (f, one_more (position_or_len test items), ← placed test item items) refl
    ]

other : (a b : Bool) → a ≡ false → (a || b) ≡ true → b ≡ true
other true b f e = absurd (both_ways true f refl)
other false b f e = e

pub found : {X : Type 0} (test : X → Bool) (items : List X) → list_any test items ≡ true → position_or_len test items < length items
found test [] e = absurd (both_ways false refl e)
found test (item ∷ items) e =
    elim (cases_Bool (test item)) [
      | inl t ↦ rw t (omega arith)
      | inr f ↦ rw f (omega (arith, found test items (other _ _ f e)))
    ]
