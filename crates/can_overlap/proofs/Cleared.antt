-- A table whose marks are all taken out again.
use Rattle.std.proofs.Common.{◌≡◌, ℕ, ◌<◌, ◌≤◌, Bool, true, false, not, ◌&&◌, ltb, List, length, get_or, arith, refl, ap, ◌∙◌}
use Rattle.std.proofs.Common.{⊎_elim}
use Rattle.std.proofs.Math.Bool.{and-false}
use Rattle.std.specs.List.{list_any}
use Rattle.std.proofs.lemmas.Bool.{cases_lt}
use Rattle.std.proofs.lemmas.List.Folds.{list_any_at}
use Rattle.std.proofs.lemmas.Grind.{common_steps}
use Rattle.can_bits.specs.declared.field.Field.{Field}
use Rattle.can_bits.specs.Bits.{has_position}
use Rattle.can_overlap.specs.inner.Occupancy.{is_marked, IsOccupancy}
use Rattle.can_overlap.specs.declared.indexes.IndexSet.{IndexSet}

is_after : (n m : ℕ) → m ≤ n → ltb n m ≡ false
is_after n m h = grind (arith, common_steps)

-- a row is marked only by a field that has the position, and those rows are emptied
pub none_left : (fields : List Field) (rows : List IndexSet) (d : Field) → IsOccupancy fields rows → (position other : ℕ)
    → (is_marked rows position other && not (list_any (λ field. has_position field position) fields)) ≡ false
none_left fields rows d marked position other =
    let has : Field → Bool = λ field. has_position field position in
    ⊎_elim
    (λ (h : other < length fields).
    elim (has (get_or fields other d)) as (λ b. has (get_or fields other d) ≡ b
    → (is_marked rows position other && not (list_any has fields)) ≡ false) [
      | true ↦ λ is. ap (λ b. is_marked rows position other && not b) (list_any_at has fields other d h is)
          ∙ and-false (is_marked rows position other)
      | false ↦ λ is. ap (λ b. b && not (list_any has fields)) (marked position other d ∙ ap (λ b. ltb other (length fields) && b)
          is ∙ and-false (ltb other (length fields)))
    ] refl)
    (λ (h : length fields ≤ other). ap (λ b. b && not (list_any has fields)) (marked position other d
    ∙ ap (λ b. b && has (get_or fields other d)) (is_after other (length fields) h)))
    (cases_lt other (length fields))
