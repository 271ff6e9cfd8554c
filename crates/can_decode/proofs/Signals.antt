-- Texts of signals, one after another.
use Rattle.std.proofs.Common.{◌≡◌, ◌==◌, ◌++◌, ℕ, ◌+◌, ◌<◌, Bool, true, false, not, List, [], ◌∷◌, length, length-append, take}
use Rattle.std.proofs.Common.{filter, get_or, Some, None, slice_get, if◌then◌else◌, append_assoc, append-nil, refl, sym, ap, ◌∙◌}
use Rattle.std.proofs.Common.{arith}
use Rattle.std.specs.List.{flat_map}
use Rattle.std.specs.Option.{option_map_or}
use Rattle.std.proofs.lemmas.Option.{slice_get_within, get_or_from_slice_get, slice_get-get_or}
use Rattle.std.proofs.lemmas.List.{take_more}
use Rattle.std.proofs.lemmas.List.Concat.{flat_map-append}
use Rattle.std.proofs.lemmas.List.Elements.{filter-append}
use Rattle.can_layout.specs.declared.row.Row.{Row}
use Rattle.can_decode.specs.DecodedLines.{listed}

-- one signal after others
listed-push : (first further : Row → List ℕ) (rows : List Row) (row : Row) → listed first further (rows ++ row ∷ [])
    ≡ listed first further rows ++ (if not (length rows == 0) then further row else first row)
listed-push first further [] row = append-nil (first row)
listed-push first further (front ∷ rows) row =
    let some : (length (front ∷ rows) == 0) ≡ false = grind arith in
    ap (λ text. first front ++ text) (flat_map-append further rows (row ∷ [])
    ∙ ap (λ text. flat_map further rows ++ text) (append-nil (further row)))
    ∙ sym (append_assoc (first front) (flat_map further rows) (further row))
    ∙ ap (λ none. listed first further (front ∷ rows) ++ (if not none then further row else first row))
    (sym some)

module _ (test : Row → Bool) (first further : Row → List ℕ) (rows : List Row) (i : ℕ) (d : Row) (within : i < length rows) where
  abbrev so_far : List Row
  so_far = filter test (take i rows)

  one_more : filter test (take (i + 1) rows) ≡ so_far ++ filter test (get_or rows i d ∷ [])
  one_more = ap (filter test) (take_more rows i d within) ∙ filter-append (test) (take i rows) (get_or rows i d ∷ [])

  pub present_more : test (get_or rows i d) ≡ true → filter test (take (i + 1) rows) ≡ so_far ++ get_or rows i d ∷ []
  present_more there = one_more ∙ ap (λ present. so_far ++ (if present then get_or rows i d ∷ [] else [])) there

  pub absent_more : test (get_or rows i d) ≡ false → filter test (take (i + 1) rows) ≡ so_far
  absent_more absent = one_more ∙ ap (λ present. so_far ++ (if present then get_or rows i d ∷ [] else [])) absent
      ∙ append-nil so_far

  -- a signal that is there
  pub text_more : test (get_or rows i d) ≡ true → (before mid now : List ℕ) (some : Bool) → some ≡ not (length so_far == 0)
      → mid ≡ before ++ listed first further so_far → now ≡ mid ++ (if some then further (get_or rows i d) else
      first (get_or rows i d))
      → now ≡ before ++ listed first further (filter test (take (i + 1) rows))
  text_more there before mid now some is q p =
      p ∙ ap (λ some. mid ++ (if some then further (get_or rows i d) else first (get_or rows i d))) is
      ∙ ap (λ text. text ++ (if not (length so_far == 0) then further (get_or rows i d) else first
      (get_or rows i d))) q
      ∙ append_assoc before (listed first further so_far) _
      ∙ ap (λ text. before ++ text) (sym (listed-push first further so_far (get_or rows i d)))
      ∙ ap (λ rows. before ++ listed first further rows) (sym (present_more there))

  pub some_more : test (get_or rows i d) ≡ true → true ≡ not (length (filter test (take (i + 1) rows)) == 0)
  some_more there =
      let more : length (filter test (take (i + 1) rows)) ≡ length so_far + 1 =
      ap (λ (rows : List Row). length rows) (present_more there) ∙ length-append so_far (get_or rows i d ∷ []) in
      let some : (length (filter test (take (i + 1) rows)) == 0) ≡ false = grind (arith, more) in
      ap not (sym some)

-- ---- by the entry at an index

module _ (test : Row → Bool) (first further : Row → List ℕ) (rows : List Row) (i : ℕ) where
  with_row : (row : Row) → Some row ≡ slice_get rows i → true ≡ option_map_or test (slice_get rows i) false
      → (before mid now : List ℕ) (some : Bool) → some ≡ not (length (filter test (take i rows)) == 0)
      → mid ≡ before ++ listed first further (filter test (take i rows))
      → now ≡ mid ++ (if some then further row else first row)
      → (now ≡ before ++ listed first further (filter test (take (i + 1) rows)))
      × (true ≡ not (length (filter test (take (i + 1) rows)) == 0))
  with_row row is there before mid now some so q p =
      let within : i < length rows = slice_get_within rows i row (sym is) in
      let same : get_or rows i row ≡ row = get_or_from_slice_get rows i row row (sym is) in
      let present : test (get_or rows i row) ≡ true =
      ap test same ∙ ap (λ found. option_map_or test found false) is ∙ sym there in (
        text_more test first further rows i row within present before mid now some so q (p
            ∙ ap (λ row. mid ++ (if some then further row else first row)) (sym same)),
        some_more test first further rows i row within present,
      )

  none_past : (xs : List Row) → slice_get xs i ≡ None → i < length xs → ⊥
  none_past [] e within = omega (arith, within)
  none_past (x ∷ xs) e within = let no : None ≡ Some (get_or (x ∷ xs) i x) = sym e ∙ slice_get-get_or (x ∷ xs) i x within in cc

  pub with_row_at : i < length rows → true ≡ option_map_or test (slice_get rows i) false
      → (before mid now : List ℕ) (some : Bool) → some ≡ not (length (filter test (take i rows)) == 0)
      → mid ≡ before ++ listed first further (filter test (take i rows))
      → ((row : Row) → Some row ≡ slice_get rows i → now ≡ mid ++ (if some then further row else first row))
      → (now ≡ before ++ listed first further (filter test (take (i + 1) rows)))
      × (true ≡ not (length (filter test (take (i + 1) rows)) == 0))
  with_row_at within there before mid now some so q p =
      elim (slice_get rows i) as (λ found. slice_get rows i ≡ found
      → (now ≡ before ++ listed first further (filter test (take (i + 1) rows)))
      × (true ≡ not (length (filter test (take (i + 1) rows)) == 0))) [
        | None ↦ λ e. absurd (none_past rows e within)
        | Some row ↦ λ e. with_row row (sym e) there before mid now some so q (p row (sym e))
      ] refl

  pub without_row : i < length rows → false ≡ option_map_or test (slice_get rows i) false → filter test (take (i + 1) rows)
      ≡ filter test (take i rows)
  without_row within absent =
      elim (slice_get rows i) as (λ found. slice_get rows i ≡ found → filter test (take (i + 1) rows) ≡ filter test (take i rows)) [
        | None ↦ λ e. absurd (none_past rows e within)
        | Some row ↦ λ e.
            let same : get_or rows i row ≡ row = get_or_from_slice_get rows i row row e in
            absent_more test first further rows i row within (ap test same ∙ ap (λ found. option_map_or test found false) (sym e)
            ∙ sym absent)
      ] refl
