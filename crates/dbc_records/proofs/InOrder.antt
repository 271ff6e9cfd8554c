-- Entries in an order: each precedes all later ones.
use Rattle.std.proofs.Common.{◌≡◌, ◌<◌, true, false, ℕ, zero, suc, List, [], ◌∷◌, length, get_or, arith}
use Rattle.std.specs.Prelude.{ℤ, int_lt}
use Rattle.std.specs.Ordering.{int_eq}
use Rattle.std.proofs.lemmas.Bool.{and_parts}
use Rattle.std.proofs.lemmas.Int.{ints}
use Rattle.dbc_records.specs.Records.{Entry}
use Rattle.dbc_records.specs.declared.order.EntryOrder.{EntryOrder}
use Rattle.dbc_records.specs.declared.order.EntryOrder.TheVariants as orders
use Rattle.dbc_records.specs.Orders.{precedes, are_in_order_after, are_in_order}

-- ---- numbers

int_lt-trans : (a b c : ℤ) → int_lt a b ≡ true → int_lt b c ≡ true → int_lt a c ≡ true
int_lt-trans a b c first second = grind (arith, ints)

int_lt-differs : (a b : ℤ) → int_lt a b ≡ true → int_eq a b ≡ false
int_lt-differs a b less = grind (arith, ints)

int_lt-differs_back : (a b : ℤ) → int_lt b a ≡ true → int_eq a b ≡ false
int_lt-differs_back a b less = grind (arith, ints)

pub precedes-trans : (order : EntryOrder) (a b c : ℤ) → precedes order a b ≡ true → precedes order b c ≡ true
    → precedes order a c ≡ true
precedes-trans orders.Rising a b c first second = int_lt-trans a b c first second
precedes-trans orders.Falling a b c first second = int_lt-trans c b a second first

pub precedes-differs : (order : EntryOrder) (a b : ℤ) → precedes order a b ≡ true → int_eq a b ≡ false
precedes-differs orders.Rising a b less = int_lt-differs a b less
precedes-differs orders.Falling a b less = int_lt-differs_back a b less

pub precedes-differs_back : (order : EntryOrder) (a b : ℤ) → precedes order a b ≡ true → int_eq b a ≡ false
precedes-differs_back orders.Rising a b less = int_lt-differs_back b a less
precedes-differs_back orders.Falling a b less = int_lt-differs b a less

-- ---- entries

module _ (order : EntryOrder) where
  precedes_at : (number : ℤ) (entries : List Entry) (j : ℕ) (d : Entry) → are_in_order_after order number entries ≡ true
      → j < length entries → precedes order number (get_or entries j d).number ≡ true
  precedes_at number [] j d are below = absurd (omega arith)
  precedes_at number (entry ∷ entries) zero d are below =
      (and_parts (precedes order number entry.number) (are_in_order_after order entry.number entries) are).0
  precedes_at number (entry ∷ entries) (suc j) d are below =
      let parts = and_parts (precedes order number entry.number) (are_in_order_after order entry.number entries) are in
      precedes-trans order number entry.number (get_or entries j d).number parts.0
      (precedes_at entry.number entries j d parts.1 (omega arith))

  in_order_after : (number : ℤ) (entries : List Entry) → are_in_order_after order number entries ≡ true
      → are_in_order order entries ≡ true
  in_order_after number [] are = are
  in_order_after number (entry ∷ entries) are =
      (and_parts (precedes order number entry.number) (are_in_order_after order entry.number entries) are).1

  -- an entry precedes each later one
  pub earlier_precedes : (entries : List Entry) (i j : ℕ) (d : Entry) → are_in_order order entries ≡ true → i < j
      → j < length entries → precedes order (get_or entries i d).number (get_or entries j d).number ≡ true
  earlier_precedes [] i j d are before below = absurd (omega arith)
  earlier_precedes (entry ∷ entries) i zero d are before below = absurd (omega arith)
  earlier_precedes (entry ∷ entries) zero (suc j) d are before below =
      precedes_at entry.number entries j d are (omega arith)
  earlier_precedes (entry ∷ entries) (suc i) (suc j) d are before below =
      earlier_precedes entries i j d (in_order_after entry.number entries are) (omega arith) (omega arith)
