-- Runs of signals that are not in the data.
use Rattle.std.proofs.Common.{◌≡◌, ℕ, zero, suc, ◌+◌, ◌-◌, ◌<◌, ◌≤◌, Bool, false, ◌&&◌, ◌||◌, List, Option, Some, None}
use Rattle.std.proofs.Common.{length, take, slice_get, refl, sym, ap, ◌∙◌, arith}
use Rattle.std.specs.Prelude.{nat_le}
use Rattle.std.specs.Option.{option_map_or}
use Rattle.can_layout.specs.Plans.{Plan, is_present, is_whole}
use Rattle.can_layout.specs.declared.row.Row.{Row}
use Rattle.can_decode.specs.DecodedLines.{is_shown, shown_rows, IsListedTo}
use Rattle.can_decode.proofs.Signals.{without_row}

module _ (first_text further_text : List ℕ → Row → List ℕ) (bytes : List ℕ) (plan : Plan) where
  -- a signal that is not in the data isn't shown
  not_shown : (row : Option Row) → false ≡ is_present bytes plan.rows row → false ≡ option_map_or (is_shown bytes plan) row false
  not_shown None absent = refl
  not_shown (Some row) absent = ap (λ there. there && (nat_le plan.size (length bytes) || is_whole bytes row)) absent

  -- a run of them adds nothing
  none_more : (first count : ℕ)
      → ((index : ℕ) → first ≤ index → index < first + count → false ≡ is_present bytes plan.rows (slice_get plan.rows index))
      → first + count ≤ length plan.rows
      → shown_rows bytes plan (take (first + count) plan.rows) ≡ shown_rows bytes plan (take first plan.rows)
  none_more first zero absent within =
      let here : first + 0 ≡ first = omega arith in ap (λ (index : ℕ). shown_rows bytes plan (take index plan.rows)) here
  none_more first (suc count) absent within =
      let last : first + suc count ≡ first + count + 1 = omega arith in
      ap (λ (index : ℕ). shown_rows bytes plan (take index plan.rows)) last
      ∙ without_row (is_shown bytes plan) (first_text bytes) (further_text bytes) plan.rows (first + count) (omega (arith, within))
      (not_shown (slice_get plan.rows (first + count)) (absent (first + count) (omega arith) (omega arith)))
      ∙ none_more first count (λ index from below. absent index from (omega (arith, below))) (omega (arith, within))

  pub passed_over : (first end : ℕ) → first ≤ end → end ≤ length plan.rows
      → ((index : ℕ) → first ≤ index → index < end → false ≡ is_present bytes plan.rows (slice_get plan.rows index))
      → (before text : List ℕ) (some : Bool) → IsListedTo first_text further_text before bytes plan first text some
      → IsListedTo first_text further_text before bytes plan end text some
  passed_over first end order within absent before text some shown =
      let whole : first + (end - first) ≡ end = omega (arith, order) in
      let more = none_more first (end - first) (λ index from below. absent index from (omega (arith, order, below)))
      (omega (arith, order, within)) in
      let same : shown_rows bytes plan (take end plan.rows) ≡ shown_rows bytes plan (take first plan.rows) =
      ap (λ (index : ℕ). shown_rows bytes plan (take index plan.rows)) (sym whole) ∙ more in
      record { written = rw same shown.written; any = rw same shown.any }
