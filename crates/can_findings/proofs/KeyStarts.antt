-- The first entry of a key, found among the entries of its CAN identifier, begins where the first of the keys does.
use Rattle.std.proofs.Common.{◌≡◌, ◌==◌, ◌&&◌, ℕ, true, false, List, [], ◌∷◌, Some, cond, filter, map, bytes_eq, refl}
use Rattle.std.specs.List.{find}
use Rattle.std.specs.Option.{option_map}
use Rattle.can_entries.specs.Rows.{first_named}
use Rattle.can_findings.specs.declared.row_starts.RowStart.{RowStart}
use Rattle.can_findings.specs.RowStarts.{key_start, start_of_key}

pub start_of_rows : (number : ℕ) (name : List ℕ) (rows : List RowStart)
    → option_map (λ (row : RowStart). row.start) (first_named (λ (row : RowStart). row.signal.now) name
    (filter (λ (row : RowStart). row.number == number) rows)) ≡ start_of_key number name (map key_start rows)
start_of_rows number name [] = refl
start_of_rows number name (row ∷ rows) =
    let others : List RowStart = filter (λ (r : RowStart). r.number == number) rows in
    elim (row.number == number) as (λ same. option_map (λ (r : RowStart). r.start)
    (first_named (λ (r : RowStart). r.signal.now) name (cond same (row ∷ others) others))
    ≡ option_map (λ k. k.start) (cond (same && bytes_eq row.signal.now name) (Some (key_start row))
    (find (λ k. k.number == number && bytes_eq k.signal name) (map key_start rows)))) [
      | true ↦ elim (bytes_eq row.signal.now name) as (λ found. option_map (λ (r : RowStart). r.start) (cond found (Some row)
          (first_named (λ (r : RowStart). r.signal.now) name others)) ≡ option_map (λ k. k.start) (cond found (Some (key_start row))
          (find (λ k. k.number == number && bytes_eq k.signal name) (map key_start rows)))) [
            | true ↦ refl
            | false ↦ start_of_rows number name rows
          ]
      | false ↦ start_of_rows number name rows
    ]
