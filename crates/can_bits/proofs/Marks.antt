-- A table in which one more field is marked, and the text of a table.
use Rattle.std.proofs.Common.{◌≡◌, ℕ, zero, suc, ◌+◌, ◌*◌, ◌<◌, Bool, true, false, if◌then◌else◌, List, [], ◌∷◌, ◌++◌, length, map}
use Rattle.std.proofs.Common.{filter, take, get_or, codes, decimal, append-nil, refl, sym, ap, ◌∙◌, arith}
use Rattle.std.specs.List.{flat_map, range_with_len, enumerate_from}
use Rattle.std.proofs.lemmas.List.{take_more, map-append, flat_map_more}
use Rattle.std.proofs.lemmas.List.Elements.{filter-append}
use Rattle.std.proofs.lemmas.List.FromFn.{length-enumerate_from, get_or-enumerate_from}
use Rattle.can_bits.specs.declared.field.Field.{Field}
use Rattle.can_bits.specs.declared.cell.Cell.{Cell}
use Rattle.can_bits.specs.Bits.{has_position}
use Rattle.can_bits.specs.Grids.{indexes_at, cell_text, right, bits_down, byte_line}
use Rattle.can_bits.specs.Cells.{marked, marked_if, shown, cell_of, indexes_among, cell_at, cells_text, cells_line, IsTable}

-- one more element, with its index
pub more_placed : {X : Type 0} (xs : List X) (i : ℕ) (d : X) → i < length xs → take (i + 1) (enumerate_from 0 xs)
    ≡ take i (enumerate_from 0 xs) ++ (i, get_or xs i d) ∷ []
more_placed xs i d within =
    let long : i < length (enumerate_from 0 xs) = rw (length-enumerate_from 0 xs) within in
    let here : 0 + i ≡ i = omega arith in
    take_more (enumerate_from 0 xs) i (0, d) long
    ∙ ap (λ p. take i (enumerate_from 0 xs) ++ p ∷ []) (get_or-enumerate_from 0 xs i (0, d) within
    ∙ ap (λ (k : ℕ). (k, get_or xs i d)) here)

one_more_place : (indexes : List ℕ) (index : ℕ) → cell_of (indexes ++ index ∷ []) ≡ marked (cell_of indexes) index
one_more_place [] index = refl
one_more_place (first ∷ []) index = refl
one_more_place (first ∷ second ∷ others) index = refl

more_indexes : (placed : List (ℕ × Field)) (index : ℕ) (field : Field) (position : ℕ)
    → indexes_among (placed ++ (index, field) ∷ []) position ≡ indexes_among placed position
    ++ (if has_position field position then index ∷ [] else [])
more_indexes placed index field position =
    let has : ℕ × Field → Bool = λ one. has_position one.1 position in
    let last : map (λ (one : ℕ × Field). one.0) (filter has ((index, field) ∷ [])) ≡ (if has_position field position then index
    ∷ [] else []) =
    elim (has_position field position) as (λ b. has_position field position ≡ b
    → map (λ (one : ℕ × Field). one.0) (filter has ((index, field) ∷ [])) ≡ (if b then index ∷ [] else [])) [
      | true ↦ λ is. rw is refl
      | false ↦ λ is. rw is refl
    ] refl in
    ap (map (λ (one : ℕ × Field). one.0)) (filter-append has placed ((index, field) ∷ []))
    ∙ map-append (λ (one : ℕ × Field). one.0) (filter has placed) (filter has ((index, field) ∷ []))
    ∙ ap (λ (indexes : List ℕ). indexes_among placed position ++ indexes) last

cell_once_more : (has : Bool) (indexes : List ℕ) (index : ℕ) → marked_if has (cell_of indexes) index
    ≡ cell_of (indexes ++ (if has then index ∷ [] else []))
cell_once_more true indexes index = sym (one_more_place indexes index)
cell_once_more false indexes index = ap cell_of (sym (append-nil indexes))

pub marked_table : (size : ℕ) (placed : List (ℕ × Field)) (index : ℕ) (field : Field) (cells after : List Cell)
    → IsTable size placed cells → length after ≡ 8 * size
    → ((position : ℕ) → position < 8 * size → cell_at after position ≡ marked_if (has_position field position)
    (cell_at cells position) index) → IsTable size (placed ++ (index, field) ∷ []) after
marked_table size placed index field cells after is count marks = record {
  count = count;
  each = λ position within.
      marks position within
      ∙ ap (λ (cell : Cell). marked_if (has_position field position) cell index) (is.each position within)
      ∙ cell_once_more (has_position field position) (indexes_among placed position) index
      ∙ ap cell_of (sym (more_indexes placed index field position));
}

-- ---- the text

shown_indexes : (indexes : List ℕ) → shown (cell_of indexes) ≡ cell_text indexes
shown_indexes [] = refl
shown_indexes (index ∷ []) = refl
shown_indexes (index ∷ further ∷ others) = refl

both_after : (x y s t : List ℕ) → x ≡ y → s ≡ t → x ++ s ≡ y ++ t
both_after x y s t same rest = ap (λ (k : List ℕ). k ++ s) same ∙ ap (λ (k : List ℕ). y ++ k) rest

each_bit : (f g : ℕ → List ℕ) → ((bit : ℕ) → bit < 8 → f bit ≡ g bit) → flat_map f bits_down ≡ flat_map g bits_down
each_bit f g same =
    both_after (f 7) (g 7) _ _ (same 7 (omega arith))
    (both_after (f 6) (g 6) _ _ (same 6 (omega arith))
    (both_after (f 5) (g 5) _ _ (same 5 (omega arith))
    (both_after (f 4) (g 4) _ _ (same 4 (omega arith))
    (both_after (f 3) (g 3) _ _ (same 3 (omega arith))
    (both_after (f 2) (g 2) _ _ (same 2 (omega arith))
    (both_after (f 1) (g 1) _ _ (same 1 (omega arith))
    (both_after (f 0) (g 0) _ _ (same 0 (omega arith)) refl)))))))

pub same_line : (size : ℕ) (fields : List Field) (cells : List Cell) (byte : ℕ) → IsTable size (enumerate_from 0 fields) cells
    → byte < size → cells_line cells byte ≡ byte_line fields byte
unfolding cells_line byte_line indexes_at
same_line size fields cells byte is within =
    let bits : cells_text cells byte ≡ flat_map (λ bit. right (cell_text (indexes_at fields (8 * byte + bit)))) bits_down =
    each_bit _ _ (λ bit small.
    let inside : 8 * byte + bit < 8 * size = omega (arith, within, small) in
    ap right (ap shown (is.each (8 * byte + bit) inside)
    ∙ shown_indexes (indexes_among (enumerate_from 0 fields) (8 * byte + bit)))) in
    ap (λ (text : List ℕ). right (decimal byte) ++ (codes ":" ++ (text ++ codes "\n"))) bits

-- one more item's text after those of the items so far
pub one_more_text : {X : Type 0} (f : X → List ℕ) (old mid new : List ℕ) (xs : List X) (i : ℕ) (d : X) → i < length xs
    → mid ≡ old ++ flat_map f (take i xs) → new ≡ mid ++ f (get_or xs i d) → new ≡ old ++ flat_map f (take (i + 1) xs)
one_more_text f old mid new xs i d within so_far pushed =
    pushed ∙ ap (λ (text : List ℕ). text ++ f (get_or xs i d)) so_far ∙ flat_map_more f old (take i xs) (get_or xs i d)
    ∙ ap (λ items. old ++ flat_map f items) (sym (take_more xs i d within))

pub range_more : (first n : ℕ) → range_with_len first (n + 1) ≡ range_with_len first n ++ (first + n) ∷ []
range_more first zero = let here : first + 0 ≡ first = omega arith in rw here refl
range_more first (suc n) =
    let next : first + suc n ≡ first + 1 + n = omega arith in
    let one : suc n + 1 ≡ suc (n + 1) = omega arith in
    rw (next, one) (ap (λ (rest : List ℕ). first ∷ rest) (range_more (first + 1) n))
