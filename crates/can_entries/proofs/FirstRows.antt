-- The first entry of a key, found among the entries of its CAN identifier.
use Rattle.std.proofs.Common.{◌≡◌, ◌==◌, ◌&&◌, ℕ, true, false, List, [], ◌∷◌, Some, cond, filter, bytes_eq, refl, ap}
use Rattle.can_entries.specs.Rows.{first_row, first_named}

module _ {R : Type 0} (number_of : R → ℕ) (signal_of : R → List ℕ) (number : ℕ) (name : List ℕ) where
  pub first_of_number : (rows : List R) → first_named signal_of name (filter (λ row. number_of row == number) rows)
      ≡ first_row number_of signal_of number name rows
  first_of_number [] = refl
  first_of_number (row ∷ rows) =
      let others : List R = filter (λ row. number_of row == number) rows in
      elim (number_of row == number) as (λ same. first_named signal_of name (cond same (row ∷ others) others)
      ≡ cond (same && bytes_eq (signal_of row) name) (Some row) (first_row number_of signal_of number name rows)) [
        | true ↦ ap (λ o. cond (bytes_eq (signal_of row) name) (Some row) o) (first_of_number rows)
        | false ↦ first_of_number rows
      ]
