-- An entry that plans share is the first of its key.
use Rattle.std.proofs.Common.{◌≡◌, ◌==◌, ℕ, true, false, List, [], ◌∷◌, Option, Some, None, map, filter, bytes_eq, length}
use Rattle.std.proofs.Common.{refl, sym, ap, ◌∙◌, inl, inr, Bor, arith}
use Rattle.std.specs.Prelude.{IfSome}
use Rattle.std.specs.Option.{option_map}
use Rattle.std.proofs.lemmas.Bool.{cases_Bool, eqb-true}
use Rattle.dbc_records.specs.Records.{ValueRow}
use Rattle.dbc_records.specs.Databases.{Database}
use Rattle.can_entries.specs.Rows.{rows_of, first_named, first_values}
use Rattle.can_layout.specs.declared.shared_row.SharedNumber.{SharedNumber}
use Rattle.can_layout.specs.declared.shared_row.NamedRow.{NamedRow}
use Rattle.can_layout.specs.Shares.{row_of, is_shared, AreShared}

abbrev of_number : ℕ → List ValueRow → List ValueRow
of_number number rows = filter (λ (row : ValueRow). row.number == number) rows

abbrev shared_of : List SharedNumber → List ValueRow → List ValueRow
shared_of numbers rows = filter (λ (row : ValueRow). is_shared numbers row.number) rows

abbrev first_row_of : List ℕ → List ValueRow → Option ValueRow
first_row_of name rows = first_named (λ (row : ValueRow). row.signal) name rows

-- the first of a key, found among what is shared, is that of the entries
first_mapped : (number : ℕ) (name : List ℕ) (named : List NamedRow) → option_map row_of
    (first_named (λ (one : NamedRow). one.row.now.signal) name (filter (λ (one : NamedRow). one.row.now.number == number) named))
    ≡ first_row_of name (of_number number (map row_of named))
first_mapped number name [] = refl
first_mapped number name (one ∷ named) =
    elim (cases_Bool (one.row.now.number == number)) [
      | inl same ↦ elim (cases_Bool (bytes_eq one.row.now.signal name)) [
        | inl found ↦ rw (same, found) refl
        | inr other ↦ rw (same, other) (first_mapped number name named)
      ]
      | inr other ↦ rw other (first_mapped number name named)
    ]

-- all entries of a CAN identifier are shared
all_shared : (numbers : List SharedNumber) (number : ℕ) (rows : List ValueRow) → is_shared numbers number ≡ true
    → of_number number (shared_of numbers rows) ≡ of_number number rows
all_shared numbers number [] has = refl
all_shared numbers number (row ∷ rows) has =
    elim (cases_Bool (row.number == number)) [
      | inl same ↦
          let here : is_shared numbers row.number ≡ true = ap (is_shared numbers) (eqb-true row.number number same) ∙ has in
          rw (here, same) (ap (λ (others : List ValueRow). row ∷ others) (all_shared numbers number rows has))
      | inr other ↦ elim (cases_Bool (is_shared numbers row.number)) [
        | inl here ↦ rw (here, other) (all_shared numbers number rows has)
        | inr gone ↦ rw (gone, other) (all_shared numbers number rows has)
      ]
    ]

-- or none is
none_shared : (numbers : List SharedNumber) (number : ℕ) (rows : List ValueRow) → is_shared numbers number ≡ false
    → of_number number (shared_of numbers rows) ≡ []
none_shared numbers number [] lacks = refl
none_shared numbers number (row ∷ rows) lacks =
    elim (cases_Bool (row.number == number)) [
      | inl same ↦
          let gone : is_shared numbers row.number ≡ false = ap (is_shared numbers) (eqb-true row.number number same) ∙ lacks in
          rw gone (none_shared numbers number rows lacks)
      | inr other ↦ elim (cases_Bool (is_shared numbers row.number)) [
        | inl here ↦ rw (here, other) (none_shared numbers number rows lacks)
        | inr gone ↦ rw gone (none_shared numbers number rows lacks)
      ]
    ]

first_of_shared : (numbers : List SharedNumber) (number : ℕ) (name : List ℕ) (rows : List ValueRow) (row : ValueRow)
    → first_row_of name (of_number number (shared_of numbers rows)) ≡ Some row
    → first_row_of name (of_number number rows) ≡ Some row
first_of_shared numbers number name rows row found =
    elim (cases_Bool (is_shared numbers number)) [
      | inl has ↦ ap (first_row_of name) (sym (all_shared numbers number rows has)) ∙ found
      | inr lacks ↦
          let nothing : None ≡ Some row = ap (first_row_of name) (sym (none_shared numbers number rows lacks)) ∙ found in
          absurd (let wrong : None ≡ Some row = nothing in cc)
    ]

shared_first : (database : Database) (numbers : List SharedNumber) (named : List NamedRow) (number : ℕ) (name : List ℕ)
    (one : NamedRow) → AreShared database.values numbers named
    → Some one ≡ first_named (λ (one : NamedRow). one.row.now.signal) name
    (filter (λ (one : NamedRow). one.row.now.number == number) named)
    → first_values name (rows_of number database) ≡ Some (row_of one)
unfolding rows_of
shared_first database numbers named number name one are found =
    first_of_shared numbers number name database.values (row_of one)
    (ap (λ (rows : List ValueRow). first_row_of name (of_number number rows)) (sym are)
    ∙ sym (first_mapped number name named) ∙ ap (option_map row_of) (sym found))

pub shared_there : (database : Database) (numbers : List SharedNumber) (named : List NamedRow) (number : ℕ) (name : List ℕ)
    (found : Option (Bor NamedRow)) → AreShared database.values numbers named
    → option_map (λ (one : Bor NamedRow). one.now) found ≡ first_named (λ (one : NamedRow). one.row.now.signal) name
    (filter (λ (one : NamedRow). one.row.now.number == number) named)
    → IfSome found (λ (one : Bor NamedRow). first_values name (rows_of number database) ≡ Some (row_of one.now))
shared_there database numbers named number name None are is = tt
shared_there database numbers named number name (Some one) are is = shared_first database numbers named number name one.now are is

-- without CAN identifiers no entry is shared
none_without_numbers : (rows : List ValueRow) → shared_of [] rows ≡ []
none_without_numbers [] = refl
none_without_numbers (row ∷ rows) = none_without_numbers rows

pub none_named : (named : List NamedRow) (numbers : List SharedNumber) (rows : List ValueRow) → named ≡ []
    → (length numbers == 0) ≡ true → map row_of named ≡ filter (λ (row : ValueRow). is_shared numbers row.number) rows
none_named named [] rows nothing empty = ap (map row_of) nothing ∙ sym (none_without_numbers rows)
none_named named (number ∷ numbers) rows nothing empty = absurd (omega (arith, eqb-true (length (number ∷ numbers)) 0 empty))
