-- The entry for a raw value, of entries in an order.
use Rattle.std.proofs.Common.{◌≡◌, ◌<◌, ◌≤◌, true, false, ℕ, List, length, get_or, Some, None, ap, ◌∙◌, arith, ⊎_elim}
use Rattle.std.specs.Prelude.{ℤ, int_lt}
use Rattle.std.specs.List.{AllWithin}
use Rattle.std.specs.List.Sorted.{IsPartitionedBy}
use Rattle.std.specs.Ordering.{int_eq}
use Rattle.std.proofs.lemmas.Bool.{cases_lt, cases_eq}
use Rattle.std.proofs.lemmas.Int.{ints}
use Rattle.std.proofs.lemmas.List.{get_or_default}
use Rattle.dbc_records.specs.Records.{Entry}
use Rattle.dbc_records.specs.declared.order.EntryOrder.{EntryOrder}
use Rattle.dbc_records.specs.declared.order.EntryOrder.TheVariants as orders
use Rattle.dbc_records.specs.Orders.{precedes, are_in_order}
use Rattle.dbc_records.proofs.InOrder.{precedes-trans, precedes-differs, precedes-differs_back, earlier_precedes}
use Rattle.can_entries.proofs.SortedRows.{find_one, find_none}
use Rattle.can_layout.specs.Decoders.{first_entry}

-- ---- raw values

int_above : (a b : ℤ) → int_lt a b ≡ false → int_eq a b ≡ false → int_lt b a ≡ true
int_above a b least other = grind (arith, ints)

int_below : (a b : ℤ) → int_lt b a ≡ false → int_eq a b ≡ false → int_lt a b ≡ true
int_below a b least other = grind (arith, ints)

precedes_back : (order : EntryOrder) (a b : ℤ) → precedes order a b ≡ false → int_eq a b ≡ false → precedes order b a ≡ true
precedes_back orders.Rising a b least other = int_above a b least other
precedes_back orders.Falling a b least other = int_below a b least other

-- ---- entries

module _ (order : EntryOrder) (entries : List Entry) (raw : ℤ) (are : are_in_order order entries ≡ true) where
  -- no entry that precedes the raw value comes after one that doesn't
  pub parted : IsPartitionedBy (λ entry. precedes order entry.number raw) entries
  parted i j d le below less =
      ⊎_elim
      (λ before. precedes-trans order (get_or entries i d).number (get_or entries j d).number raw
      (earlier_precedes order entries i j d are before below) less)
      (λ after. let same : i ≡ j = omega arith in ap (λ k. precedes order (get_or entries k d).number raw) same ∙ less)
      (cases_lt i j)

  -- all entries up to an index precede the raw value
  module _ (index : ℕ) (ahead : AllWithin (λ entry. precedes order entry.number raw ≡ true) entries 0 index) where
    others : AllWithin (λ entry. int_eq entry.number raw ≡ false) entries 0 index
    others k d least below = precedes-differs order (get_or entries k d).number raw (ahead k d least below)

    pub entry_there : (d : Entry) → index < length entries → int_eq (get_or entries index d).number raw ≡ true
        → first_entry raw entries ≡ Some (get_or entries index d)
    entry_there d below here = find_one (λ entry. int_eq entry.number raw) entries index d below others here

    pub none_at_end : length entries ≤ index → first_entry raw entries ≡ None
    none_at_end end =
        find_none (λ entry. int_eq entry.number raw) entries (λ k d below. others k d (omega arith) (omega arith))

    module _ (d : Entry) (below : index < length entries) (least : precedes order (get_or entries index d).number raw ≡ false)
        (other : int_eq (get_or entries index d).number raw ≡ false) where
      later : (k : ℕ) (e : Entry) → index < k → k < length entries → int_eq (get_or entries k e).number raw ≡ false
      later k e after within =
          let first : get_or entries index e ≡ get_or entries index d = get_or_default entries index e d below in
          let mux_parent : precedes order raw (get_or entries index d).number ≡ true =
          precedes_back order (get_or entries index d).number raw least other in
          precedes-differs_back order raw (get_or entries k e).number
          (precedes-trans order raw (get_or entries index e).number (get_or entries k e).number
          (ap (λ (entry : Entry). precedes order raw entry.number) first ∙ mux_parent)
          (earlier_precedes order entries index k e are after within))

      pub none_there : first_entry raw entries ≡ None
      none_there =
          find_none (λ entry. int_eq entry.number raw) entries (λ k e within. ⊎_elim
          (λ before. others k e (omega arith) before)
          (λ after. ⊎_elim
          (λ same. ap (λ i. int_eq (get_or entries i e).number raw) same
          ∙ ap (λ (entry : Entry). int_eq entry.number raw) (get_or_default entries index e d below) ∙ other)
          (λ differ. later k e (omega arith) within) (cases_eq k index)) (cases_lt k index))
