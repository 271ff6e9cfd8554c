-- Fields that follow one another share no position, so signals with these don't overlap.
use Rattle.std.proofs.Common.{◌≡◌, ℕ, zero, suc, ◌+◌, ◌<◌, ◌≤◌, Bool, true, false, ◌&&◌, ◌||◌, eqb, List, [], ◌∷◌, ◌++◌, length}
use Rattle.std.proofs.Common.{arith, refl, ap, subst, ◌∙◌, sym, ⊎_elim, if◌then◌else◌, leb}
use Rattle.std.specs.Bool.{beq}
use Rattle.std.specs.List.{flat_map, list_any, list_all, range_with_len}
use Rattle.dbc_records.specs.Records.{is_intel}
use Rattle.can_bits.specs.declared.field.Field.{Field}
use Rattle.can_bits.specs.Bits.{mirrored, position_of, has_position}
use Rattle.can_bits.specs.Steps.{passed_at}
use Rattle.can_entries.specs.declared.walk.Walk.{Walk}
use Rattle.can_overlap.specs.declared.pair.Pair.{Pair}
use Rattle.can_overlap.specs.inner.Apart.{ends_before, apart, all_apart, seen_apart}
use Rattle.can_overlap.specs.Overlaps.{Laid, laid_from, share, together, pair_where, pair_of, for_pairs, overlapping}
use Rattle.std.proofs.lemmas.Bool.{and_parts, or_cases, leb-true}
use Rattle.can_overlap.proofs.Words.{eqb-apart}

any-none : (p : ℕ → Bool) (from n : ℕ) → ((k : ℕ) → k < n → p (from + k) ≡ false) → list_any p (range_with_len from n) ≡ false
any-none p from zero none = refl
any-none p from (suc n) none =
    let here : from + 0 ≡ from = omega arith in
    let first : p from ≡ false = ap p (sym here) ∙ none 0 (omega arith) in
    rw (first)
    (any-none p (from + 1) n (λ k h. let on : from + 1 + k ≡ from + suc k = omega arith in ap p on ∙ none (suc k) (omega arith)))

any-below : (p : ℕ → Bool) (n : ℕ) → ((k : ℕ) → k < n → p k ≡ false) → list_any p (range_with_len 0 n) ≡ false
any-below p n none = any-none p 0 n (λ k h. let same : 0 + k ≡ k = omega arith in ap p same ∙ none k h)

-- ---- positions

abbrev passed : Bool → ℕ → ℕ → ℕ
passed intel start index = if intel then start + index else mirrored start + index

abbrev position : Bool → ℕ → ℕ → ℕ
position intel start index = if intel then start + index else mirrored (mirrored start + index)

-- indexes of which one comes before the other have different positions
before : (intel : Bool) (s t i j : ℕ) → passed intel s i < passed intel t j → position intel t j ≡ position intel s i → ⊥
before true s t i j less same = omega (arith, less, same)
before false s t i j less same = omega (arith, less, same)

after : (intel : Bool) (s t i j : ℕ) → passed intel t j < passed intel s i → position intel t j ≡ position intel s i → ⊥
after true s t i j less same = omega (arith, less, same)
after false s t i j less same = omega (arith, less, same)

sooner : (intel : Bool) (s t n i j : ℕ) → passed intel s n ≤ passed intel t 0 → i < n → passed intel s i < passed intel t j
sooner true s t n i j ends within = omega (arith, ends)
sooner false s t n i j ends within = omega (arith, ends)

-- ---- two fields

differs : (a b : Field) (i j : ℕ) → is_intel a.order ≡ is_intel b.order → (ends_before a b || ends_before b a) ≡ true
    → i < a.length → j < b.length → eqb (position_of b j) (position_of a i) ≡ false
differs a b i j order following here there =
    eqb-apart (position_of b j) (position_of a i)
    (λ same. let equal : position (is_intel a.order) b.start j ≡ position (is_intel a.order) a.start i =
    subst (λ (v : Bool). position v b.start j ≡ position (is_intel a.order) a.start i) (sym order) same in
    ⊎_elim
    (λ (e : ends_before a b ≡ true). before (is_intel a.order) a.start b.start i j
    (sooner (is_intel a.order) a.start b.start a.length i j
    (subst (λ (v : Bool). passed (is_intel a.order) a.start a.length ≤ passed v b.start 0) (sym order)
    (leb-true (passed_at a a.length) (passed_at b 0) e)) here)
    equal)
    (λ (e : ends_before b a ≡ true). after (is_intel a.order) a.start b.start i j
    (sooner (is_intel a.order) b.start a.start b.length j i
    (subst (λ (v : Bool). passed v b.start b.length ≤ passed (is_intel a.order) a.start 0) (sym order)
    (leb-true (passed_at b b.length) (passed_at a 0) e)) there)
    equal)
    (or_cases (ends_before a b) (ends_before b a) following))

same_order : (x y : Bool) → beq x y ≡ true → x ≡ y
same_order true true e = refl
same_order false false e = refl
same_order true false e = absurd (cc e)
same_order false true e = absurd (cc e)

share_none : (a b : Field) → apart a b ≡ true → share a b ≡ false
share_none a b e =
    let parts : (beq (is_intel a.order) (is_intel b.order) ≡ true) × ((ends_before a b || ends_before b a) ≡ true) =
    and_parts (beq (is_intel a.order) (is_intel b.order)) (ends_before a b || ends_before b a) e in
    any-below (λ index. has_position b (position_of a index)) a.length
    (λ i within. any-below (λ index. eqb (position_of b index) (position_of a i)) b.length
    (λ j there. differs a b i j (same_order (is_intel a.order) (is_intel b.order) parts.0) parts.1 within there))

-- ---- the signals of a message

no_pair : (a : Laid) (index : ℕ) (fields : List Field) (walks : List Walk) → list_all (apart a.field) fields ≡ true
    → flat_map (pair_of a) (laid_from index fields walks) ≡ []
no_pair a index [] [] e = refl
no_pair a index [] (walk ∷ walks) e = refl
no_pair a index (field ∷ fields) [] e = refl
no_pair a index (field ∷ fields) (walk ∷ walks) e =
    let parts : (apart a.field field ≡ true) × (list_all (apart a.field) fields ≡ true) =
    and_parts (apart a.field field) (list_all (apart a.field) fields) e in
    rw (share_none a.field field parts.0) (no_pair a (index + 1) fields walks parts.1)

no_pairs : (index : ℕ) (fields : List Field) (walks : List Walk) → all_apart fields ≡ true
    → for_pairs pair_of (laid_from index fields walks) ≡ []
no_pairs index [] [] e = refl
no_pairs index [] (walk ∷ walks) e = refl
no_pairs index (field ∷ fields) [] e = refl
no_pairs index (field ∷ fields) (walk ∷ walks) e =
    let parts : (list_all (apart field) fields ≡ true) × (all_apart fields ≡ true) =
    and_parts (list_all (apart field) fields) (all_apart fields) e in
    let first : Laid = record { index = index; field = field; walk = walk } in
    rw (no_pair first (index + 1) fields walks parts.0) (no_pairs (index + 1) fields walks parts.1)

pub none_overlap : (fields : List Field) → all_apart fields ≡ true → (walks : List Walk) → overlapping fields walks ≡ []
unfolding overlapping
none_overlap fields e walks = no_pairs 0 fields walks e
