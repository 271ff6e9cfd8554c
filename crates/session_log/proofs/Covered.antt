-- The indexes of the lines that several CAN identifiers touch, each once.
use Rattle.std.proofs.Common.{◌≡◌, ◌<◌, ◌+◌, ℕ, Bool, true, false, not, cond, List, [], ◌∷◌, ◌++◌, length, length-append, get_or}
use Rattle.std.proofs.Common.{refl, sym, ◌∙◌, inl, inr, arith}
use Rattle.std.specs.Prelude.{◌==◌, ◌||◌, ◌&&◌, count_by, filter}
use Rattle.std.specs.List.{list_any}
use Rattle.std.proofs.lemmas.Bool.{cases_Bool, both_ways, or_left, or_right}
use Rattle.std.proofs.lemmas.List.Elements.{All-nil, All-append}
use Rattle.std.proofs.lemmas.List.Folds.{list_any-append}
use Rattle.std.proofs.lemmas.List.Sums.{sum_by-cons}
use Rattle.session_log.specs.Touched.{line_touched}
use Rattle.session_log.specs.inner.Indexes.{is_untouched_at, Covers}
use Rattle.session_log.specs.Positions.{positions_from}
use Rattle.session_log.proofs.Positions.{length-positions, within-all, found-position, positions_of_all}
use Rattle.session_log.proofs.Reached.{touched_by_none, touched_more}

pub covers_none : (lines : List (List ℕ)) → Covers [] lines []
covers_none lines = record {
  within = All-nil _;
  touched = λ k d within touched. absurd (both_ways _ (touched_by_none (get_or lines k d)) touched);
  few = omega arith;
}

-- those that pass one test, and those that pass another and not the one
count_both : {X : Type 0} (e t u : X → Bool) → ((x : X) → u x ≡ (e x || t x)) → (xs : List X)
    → count_by e xs + count_by (λ x. t x && not (e x)) xs ≡ count_by u xs
count_both e t u is [] = refl
count_both e t u is (x ∷ xs) =
    let rest = count_both e t u is xs in
    let here : cond (e x) 1 0 + cond (t x && not (e x)) 1 0 ≡ cond (u x) 1 0 =
    elim (cases_Bool (e x)) [
      | inl hit ↦ rw (is x, hit) (elim (cases_Bool (t x)) [ inl t ↦ rw t refl | inr f ↦ rw f refl ])
      | inr miss ↦ rw (is x, miss) (elim (cases_Bool (t x)) [ inl t ↦ rw t refl | inr f ↦ rw f refl ])
    ] in
    omega (
      arith,
      rest,
      here,
      sum_by-cons (λ x. cond (e x) 1 0) x xs,
      sum_by-cons (λ x. cond (t x && not (e x)) 1 0) x xs,
      sum_by-cons (λ x. cond (u x) 1 0) x xs,
    )

passes_one : (b : Bool) → b ≡ true → (b && true) ≡ true
passes_one true t = refl
passes_one false t = absurd (cc)

pub covers_more : (earlier : List ℕ) (number : ℕ) (lines : List (List ℕ)) (positions : List ℕ)
    → Covers earlier lines positions
    → Covers (earlier ++ number ∷ []) lines (positions ++ filter (is_untouched_at earlier lines)
    (positions_from (line_touched (number ∷ [])) 0 lines))
covers_more earlier number lines positions h =
    let one : List ℕ → Bool = line_touched (number ∷ []) in
    let before : List ℕ → Bool = line_touched earlier in
    let both : List ℕ → Bool = λ line. one line && not (before line) in
    let more : filter (is_untouched_at earlier lines) (positions_from one 0 lines) ≡ positions_from both 0 lines =
    positions_of_all one (λ line. not (before line)) lines in
    rw more (record {
      within = All-append (λ position. position < length lines) positions (positions_from both 0 lines) h.within (within-all both
          lines);
      touched = λ k d within touched.
          let line = get_or lines k d in
          let so = sym (touched_more earlier number line) ∙ touched in
          list_any-append (λ position. position == k) positions (positions_from both 0 lines)
          ∙ elim (cases_Bool (before line)) [
            | inl hit ↦ or_left _ _ (h.touched k d within hit)
            | inr miss ↦ or_right (list_any (λ position. position == k) positions) _ (found-position both 0 lines k k d within
                (omega arith)
                (rw miss (passes_one (one line) (rw miss at so))))
          ];
      few = omega (
        arith,
        h.few,
        length-append positions (positions_from both 0 lines),
        length-positions both 0 lines,
        count_both before one (line_touched (earlier ++ number ∷ [])) (touched_more earlier number) lines,
      );
    })
