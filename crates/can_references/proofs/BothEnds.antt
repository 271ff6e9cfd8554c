-- Entries in an order, of which a signal can have the first and the last: it can have each.
use Rattle.std.proofs.Common.{◌≡◌, ◌++◌, not, true, false, ℕ, Bool, List, [], ◌∷◌, length, Some, refl, sym, ap, ◌∙◌, arith}
use Rattle.std.specs.Prelude.{ℤ, pos, negsuc, ◌^◌, ◌-◌, int_lt, nat_lt, slice_get, if◌then◌else◌}
use Rattle.std.proofs.lemmas.Bool.{and_parts, and_from, lt-ltb, ltb-true}
use Rattle.dbc_records.specs.Records.{Signal, Entry}
use Rattle.dbc_records.specs.declared.order.EntryOrder.{EntryOrder}
use Rattle.dbc_records.specs.declared.order.EntryOrder.TheVariants as orders
use Rattle.dbc_records.specs.Orders.{precedes, are_in_order_after, are_in_order}
use Rattle.dbc_records.proofs.InOrder.{precedes-trans}
use Rattle.can_references.specs.RawRanges.{in_raw_range, numbers_out_of_range, has_at, has_both_ends}

-- ---- raw values

below : (number high bound : ℕ) → nat_lt number high ≡ true → nat_lt high bound ≡ true → nat_lt number bound ≡ true
below number high bound first second =
    lt-ltb number bound (omega (arith, ltb-true number high first, ltb-true high bound second))

-- a number between two raw values is one
between : (signed : Bool) (bits : ℕ) (low number high : ℤ) → int_lt low number ≡ true → int_lt number high ≡ true
    → in_raw_range signed bits low ≡ true → in_raw_range signed bits high ≡ true → in_raw_range signed bits number ≡ true
between signed bits low (pos number) (pos high) after before least greatest =
    below number high (2 ^ (if signed then bits - 1 else bits)) before greatest
between signed bits low (pos number) (negsuc high) after before least greatest =
    absurd (let no : false ≡ true = before in cc)
between signed bits (pos low) (negsuc number) high after before least greatest =
    absurd (let no : false ≡ true = after in cc)
between signed bits (negsuc low) (negsuc number) high after before least greatest =
    let parts = and_parts signed (nat_lt low (2 ^ (bits - 1))) least in
    and_from signed (nat_lt number (2 ^ (bits - 1))) parts.0 (below number low (2 ^ (bits - 1)) after parts.1)

in_order_between : (order : EntryOrder) (signed : Bool) (bits : ℕ) (first number last : ℤ) → precedes order first number ≡ true
    → precedes order number last ≡ true → in_raw_range signed bits first ≡ true → in_raw_range signed bits last ≡ true
    → in_raw_range signed bits number ≡ true
in_order_between orders.Rising signed bits first number last after before begins ends =
    between signed bits first number last after before begins ends
in_order_between orders.Falling signed bits first number last after before begins ends =
    between signed bits last number first before after ends begins

-- ---- entries

-- the last of these entries, or the one before them
abbrev last_entry : Entry → List Entry → Entry
last_entry entry [] = entry
last_entry entry (next ∷ entries) = last_entry next entries

last_at : (entry : Entry) (entries : List Entry) → slice_get (entry ∷ entries) (length entries) ≡ Some (last_entry entry entries)
last_at entry [] = refl
last_at entry (next ∷ entries) = last_at next entries

module _ (order : EntryOrder) where
  precedes_last : (number : ℤ) (entry : Entry) (entries : List Entry) → are_in_order_after order number (entry ∷ entries) ≡ true
      → precedes order number (last_entry entry entries).number ≡ true
  precedes_last number entry [] are = (and_parts (precedes order number entry.number) true are).0
  precedes_last number entry (next ∷ entries) are =
      let parts = and_parts (precedes order number entry.number) (are_in_order_after order entry.number (next ∷ entries)) are in
      precedes-trans order number entry.number (last_entry next entries).number parts.0
      (precedes_last entry.number next entries parts.1)

  module _ (signal : Signal) where
    abbrev Has : Entry → Type 0
    Has entry = in_raw_range signal.signed signal.length entry.number ≡ true

    -- the entry after the first one is had too
    next_had : (entry next : Entry) (entries : List Entry) → are_in_order_after order entry.number (next ∷ entries) ≡ true
        → Has entry → Has (last_entry next entries) → Has next
    next_had entry next [] are first last = last
    next_had entry next (further ∷ entries) are first last =
        let parts = and_parts (precedes order entry.number next.number) (are_in_order_after order next.number (further ∷ entries))
        are in
        in_order_between order signal.signed signal.length entry.number next.number (last_entry further entries).number parts.0
        (precedes_last next.number further entries parts.1) first last

    none_out_after : (entry : Entry) (entries : List Entry) → are_in_order_after order entry.number entries ≡ true → Has entry
        → Has (last_entry entry entries) → numbers_out_of_range signal entries ≡ []
    none_out_after entry [] are first last = refl
    none_out_after entry (next ∷ entries) are first last =
        let had : Has next = next_had entry next entries are first last in
        let rest = (and_parts (precedes order entry.number next.number) (are_in_order_after order next.number entries) are).1 in
        ap (λ (b : Bool). (if not b then next.number ∷ [] else [])
        ++ numbers_out_of_range signal entries) had
        ∙ none_out_after next entries rest had last

    not_out : (b : Bool) → not (not b) ≡ true → b ≡ true
    not_out true e = refl
    not_out false e = absurd (let no : false ≡ true = e in cc)

    pub none_out : (entries : List Entry) → are_in_order order entries ≡ true → has_both_ends signal entries ≡ true
        → numbers_out_of_range signal entries ≡ []
    none_out [] are ends = refl
    none_out (entry ∷ entries) are ends =
        let index : length (entry ∷ entries) - 1 ≡ length entries = omega arith in
        let both = and_parts (has_at signal (Some entry))
        (has_at signal (slice_get (entry ∷ entries) (length (entry ∷ entries) - 1))) ends in
        let first : Has entry = not_out (in_raw_range signal.signed signal.length entry.number) both.0 in
        let last : Has (last_entry entry entries) =
        not_out (in_raw_range signal.signed signal.length (last_entry entry entries).number)
        (sym (ap (has_at signal) (ap (slice_get (entry ∷ entries)) index ∙ last_at entry entries)) ∙ both.1) in
        ap (λ (b : Bool). (if not b then entry.number ∷ [] else [])
        ++ numbers_out_of_range signal entries) first
        ∙ none_out_after entry entries are first last
