-- Entries in an order have no raw value twice.
use Rattle.std.proofs.Common.{◌≡◌, ◌++◌, ◌||◌, true, false, List, [], ◌∷◌, map, refl, ap, ◌∙◌}
use Rattle.std.specs.Prelude.{ℤ, if◌then◌else◌}
use Rattle.std.specs.List.{list_any}
use Rattle.std.specs.Ordering.{int_eq}
use Rattle.std.proofs.lemmas.Bool.{and_parts}
use Rattle.std.proofs.lemmas.List.Folds.{list_any-append}
use Rattle.dbc_records.specs.Records.{Entry}
use Rattle.dbc_records.specs.declared.order.EntryOrder.{EntryOrder}
use Rattle.dbc_records.specs.Orders.{precedes, are_in_order_after, are_in_order}
use Rattle.dbc_records.proofs.InOrder.{precedes-trans, precedes-differs_back}
use Rattle.can_references.specs.Finding.{occurs_in, each_after}
use Rattle.can_references.specs.Values.{number_repeated, numbers_repeated}

module _ (order : EntryOrder) where
  -- no raw value that comes after the last one is among those before
  abbrev AreBefore : List ℤ → ℤ → Type 0
  AreBefore before last = (number : ℤ) → precedes order last number ≡ true → occurs_in int_eq number before ≡ false

  first_before : (number : ℤ) → AreBefore (number ∷ []) number
  first_before number other after = ap (λ b. b || false) (precedes-differs_back order number other after)

  next_before : (before : List ℤ) (last number : ℤ) → AreBefore before last → precedes order last number ≡ true
      → AreBefore (before ++ number ∷ []) number
  next_before before last number are next other after =
      list_any-append (int_eq other) before (number ∷ [])
      ∙ ap (λ b. b || list_any (int_eq other) (number ∷ []))
      (are other (precedes-trans order last number other next after))
      ∙ first_before number other after

  none_after : (before : List ℤ) (last : ℤ) (entries : List Entry) → AreBefore before last
      → are_in_order_after order last entries ≡ true
      → each_after number_repeated before (map (λ entry. entry.number) entries) ≡ []
  none_after before last [] are rest = refl
  none_after before last (entry ∷ entries) are rest =
      let parts = and_parts (precedes order last entry.number) (are_in_order_after order entry.number entries) rest in
      ap (λ b. (if b then entry.number ∷ [] else [])
      ++ each_after number_repeated (before ++ entry.number ∷ []) (map (λ entry. entry.number) entries))
      (are entry.number parts.0)
      ∙ none_after (before ++ entry.number ∷ []) entry.number entries (next_before before last entry.number are parts.0) parts.1

  pub none_repeated : (entries : List Entry) → are_in_order order entries ≡ true → numbers_repeated entries ≡ []
  none_repeated [] are = refl
  none_repeated (entry ∷ entries) are = none_after (entry.number ∷ []) entry.number entries (first_before entry.number) are
