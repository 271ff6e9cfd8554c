-- Items that are left out, or taken, one after another.
use Rattle.std.proofs.Common.{◌≡◌, ℕ, zero, suc, ◌+◌, ◌-◌, true, false, ℤ, List, [], ◌∷◌, Option, Some, None, drop, slice_get, refl}
use Rattle.std.proofs.Common.{sym, ap, ◌∙◌, arith}
use Rattle.std.proofs.Math.Seq.{drop-nil}
use Rattle.std.proofs.lemmas.List.{drop-drop}
use Rattle.std.specs.Prelude.{MatchOption}
use Rattle.std.specs.Option.{option_map}
use Rattle.dbc_ranges.specs.declared.items.Item.{Item as CodedItem}
use Rattle.dbc_ranges.specs.Ranges.{Item, item_of, value_of, is_value, described_value}

get_none : (n : ℕ) (items : List Item) → drop n items ≡ [] → slice_get items n ≡ None
get_none n [] none = refl
get_none zero (item ∷ items) none = absurd cc
get_none (suc n) (item ∷ items) none = get_none n items none

get_one : (n : ℕ) (items : List Item) (item : Item) (others : List Item) → drop n items ≡ item ∷ others
    → slice_get items n ≡ Some item
get_one n [] item others same = let none : ◌≡◌ {A = List Item} [] (item ∷ others) = sym (drop-nil n) ∙ same in absurd cc
get_one zero (first ∷ items) item others same = cc
get_one (suc n) (first ∷ items) item others same = get_one n items item others same

-- an item is taken from these, and those are left; or there was none
abbrev Takes : List Item → List Item → Option CodedItem → Type 0
Takes old new result = MatchOption result ((old ≡ []) × (new ≡ [])) (λ item. old ≡ item_of item ∷ new)

-- one more is left out
pub skipped : (n : ℕ) (items old new : List Item) (result : Option CodedItem) → Takes old new result → old ≡ drop n items
    → new ≡ drop (n + 1) items
skipped n items old new None (none, still) so =
    still ∙ sym (sym (drop-drop 1 n items) ∙ ap (λ (left : List Item). drop 1 left) (sym so ∙ none) ∙ drop-nil 1)
skipped n items old new (Some item) one so =
    sym (sym (drop-drop 1 n items) ∙ ap (λ (left : List Item). drop 1 left) (sym so ∙ one))

-- the one that is taken is the one at its index
pub taken : (n : ℕ) (items old new : List Item) (result : Option CodedItem) → Takes old new result → old ≡ drop n items
    → option_map item_of result ≡ slice_get items n
taken n items old new None (none, still) so = sym (get_none n items (sym so ∙ none))
taken n items old new (Some item) one so = sym (get_one n items (item_of item) new (sym so ∙ one))

-- ---- value descriptions

-- one of this raw value is skipped
pub value_after_same : (number : ℤ) (before : ℕ) (item text : Item) (items : List Item) → is_value number (value_of item) ≡ true
    → (before ≡ 0 → ⊥) → described_value number before (item ∷ text ∷ items) ≡ described_value number (before - 1) items
value_after_same number zero item text items is some = absurd (some refl)
value_after_same number (suc before) item text items is some =
    let one : suc before - 1 ≡ before = omega arith in
    rw (is, one) refl

-- one of another raw value is skipped
pub value_after_other : (number : ℤ) (before : ℕ) (item text : Item) (items : List Item) → is_value number (value_of item) ≡ false
    → described_value number before (item ∷ text ∷ items) ≡ described_value number before items
value_after_other number zero item text items isnt = rw isnt refl
value_after_other number (suc before) item text items isnt = rw isnt refl
