-- Rows of marks: what a mark is after one row changes, and after one more position.
use Rattle.std.proofs.Common.{◌≡◌, ℕ, ◌+◌, ◌<◌, Bool, true, false, not, ◌||◌, ◌&&◌, eqb, List, [], ◌∷◌, length, get_or, set, arith}
use Rattle.std.proofs.Common.{refl, subst, ap, ◌∙◌, sym, ⊎_elim, eq-eqb}
use Rattle.std.specs.List.{list_any, range_with_len}
use Rattle.std.proofs.lemmas.Bool.{cases_eq}
use Rattle.std.proofs.lemmas.List.{get_or-set_same, get_or-set_other}
use Rattle.std.proofs.lemmas.List.Folds.{list_any-append}
use Rattle.can_bits.specs.declared.field.Field.{Field}
use Rattle.can_bits.specs.Bits.{position_of}
use Rattle.can_bits.proofs.Marks.{range_more}
use Rattle.can_overlap.specs.inner.Occupancy.{is_marked}
use Rattle.can_overlap.specs.inner.IndexSet.{has}
use Rattle.can_overlap.specs.declared.indexes.IndexSet.{IndexSet}
use Rattle.can_overlap.proofs.Words.{or_false, eqb-apart}

-- one more number
pub any_more : (test : ℕ → Bool) (n : ℕ) → list_any test (range_with_len 0 (n + 1)) ≡ (list_any test (range_with_len 0 n) || test n)
any_more test n =
    let here : 0 + n ≡ n = omega arith in
    ap (list_any test) (range_more 0 n)
    ∙ list_any-append test (range_with_len 0 n) ((0 + n) ∷ [])
    ∙ ap (λ b. list_any test (range_with_len 0 n) || b) (or_false (test (0 + n)))
    ∙ ap (λ (k : ℕ). list_any test (range_with_len 0 n) || test k) here

-- whether one of a field's first bits is at a position
abbrev pub has_below : Field → ℕ → ℕ → Bool
has_below field n position = list_any (λ index. eqb (position_of field index) position) (range_with_len 0 n)

abbrev none : IndexSet
none = record { words = [] }

here : (before held e : Bool) → ((before || (held && e)) || e) ≡ (before || ((held || true) && e))
here true held e = refl
here false true true = refl
here false true false = refl
here false false e = refl

apart : (before held e : Bool) → (before || (held && e)) ≡ (before || ((held || false) && e))
apart true held e = refl
apart false true e = refl
apart false false e = refl

-- a row in which one more index is marked
pub is_marked-insert : (rows : List IndexSet) (q index : ℕ) (row : IndexSet) → q < length rows
    → ((other : ℕ) → has row.words other ≡ (has (get_or rows q none).words other || eqb other index))
    → (before held : Bool) (p other : ℕ) → is_marked rows p other ≡ (before || (held && eqb other index))
    → is_marked (set rows q row) p other ≡ (before || ((held || eqb q p) && eqb other index))
is_marked-insert rows q index row within inserted before held p other known =
    ⊎_elim
    (λ (e : p ≡ q).
    let old : is_marked rows q other ≡ (before || (held && eqb other index)) =
    subst (λ (k : ℕ). is_marked rows k other ≡ (before || (held && eqb other index))) e known in
    rw (e, get_or-set_same rows q row none within, inserted other, old, eq-eqb q q refl) (here before held (eqb other index)))
    (λ (ne : p ≡ q → ⊥).
    let other_way : q ≡ p → ⊥ = λ e. ne (sym e) in
    rw (get_or-set_other rows q p row none ne, known, eqb-apart q p other_way) (apart before held (eqb other index)))
    (cases_eq p q)

emptied : (before held : Bool) → false ≡ (before && not (held || true))
emptied true true = refl
emptied true false = refl
emptied false held = refl

kept : (before held : Bool) → (before && not held) ≡ (before && not (held || false))
kept before true = refl
kept before false = refl

-- a row that is emptied
pub is_marked-empty : (rows : List IndexSet) (q : ℕ) (row : IndexSet) → q < length rows → ((other : ℕ) → has row.words other ≡
    false)
    → (before held : Bool) (p other : ℕ) → is_marked rows p other ≡ (before && not held)
    → is_marked (set rows q row) p other ≡ (before && not (held || eqb q p))
is_marked-empty rows q row within empty before held p other known =
    ⊎_elim
    (λ (e : p ≡ q). rw (e, get_or-set_same rows q row none within, empty other, eq-eqb q q refl) (emptied before held))
    (λ (ne : p ≡ q → ⊥).
    let other_way : q ≡ p → ⊥ = λ e. ne (sym e) in
    rw (get_or-set_other rows q p row none ne, known, eqb-apart q p other_way) (kept before held))
    (cases_eq p q)
