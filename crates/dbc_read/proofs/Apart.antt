-- The layout of each statement: what its items are, and that each is separated from what is after it.
pub mod Statements
use Rattle.std.proofs.Common.{◌≡◌, ℕ, Bool, true, false, ◌||◌, ◌&&◌, List, [], ◌∷◌, ◌++◌, append_assoc, refl, sym, subst}
use Rattle.std.specs.Prelude.{All}
use Rattle.std.specs.List.{flat_map}
use Rattle.std.proofs.lemmas.List.Elements.{All-head, All-tail}
use Rattle.dbc_values.specs.Lexical.{is_word}
use Rattle.dbc_records.specs.Layout.{Item, Word, Mark, Space, Tab, LineEnd, Is, Layout, separated}
use Rattle.dbc_read.proofs.Items.{IsItem, is_closed, ends_item, are_apart}

-- ---- items

-- the items of a layout may be printed
abbrev pub AreItems : Layout → Type 0
AreItems [] = Unit {0}
AreItems (Space ∷ layout) = AreItems layout
AreItems (Tab ∷ layout) = AreItems layout
AreItems (LineEnd ∷ layout) = AreItems layout
AreItems (Is item ∷ layout) = IsItem item × AreItems layout

pub items_both : (xs ys : Layout) → AreItems xs → AreItems ys → AreItems (xs ++ ys)
items_both [] ys h k = k
items_both (Space ∷ xs) ys h k = items_both xs ys h k
items_both (Tab ∷ xs) ys h k = items_both xs ys h k
items_both (LineEnd ∷ xs) ys h k = items_both xs ys h k
items_both (Is item ∷ xs) ys h k = (h.0, items_both xs ys h.1 k)

-- ---- parts of lines

-- begins a line, and must be followed by something that ends a word or a number
pub record Start (layout : Layout) : Type 0 where
  pub items : AreItems layout
  pub apart : (rest : Layout) → ends_item rest ≡ true → are_apart rest ≡ true → are_apart (layout ++ rest) ≡ true

-- ends a word or a number before it, and must be followed by something that does so
pub record Middle (layout : Layout) : Type 0 where
  pub items : AreItems layout
  pub begins : (rest : Layout) → ends_item rest ≡ true → ends_item (layout ++ rest) ≡ true
  pub apart : (rest : Layout) → ends_item rest ≡ true → are_apart rest ≡ true → are_apart (layout ++ rest) ≡ true

-- ends a word or a number before it, and anything may be after it
pub record Close (layout : Layout) : Type 0 where
  pub items : AreItems layout
  pub begins : (rest : Layout) → ends_item (layout ++ rest) ≡ true
  pub apart : (rest : Layout) → are_apart rest ≡ true → are_apart (layout ++ rest) ≡ true

-- is between any others
pub record Line (layout : Layout) : Type 0 where
  pub items : AreItems layout
  pub apart : (rest : Layout) → are_apart rest ≡ true → are_apart (layout ++ rest) ≡ true

other_way : (P : Layout → Type 0) (xs ys rest : Layout) → P (xs ++ (ys ++ rest)) → P ((xs ++ ys) ++ rest)
other_way P xs ys rest h = subst P (sym (append_assoc xs ys rest)) h

pub start_then : {xs ys : Layout} → Start xs → Middle ys → Start (xs ++ ys)
start_then {xs} {ys} h k = record {
  items = items_both xs ys h.items k.items;
  apart = λ rest ends apart. other_way (λ l. are_apart l ≡ true) xs ys rest (h.apart (ys ++ rest) (k.begins rest ends)
      (k.apart rest ends apart));
}

pub start_close : {xs ys : Layout} → Start xs → Close ys → Line (xs ++ ys)
start_close {xs} {ys} h k = record {
  items = items_both xs ys h.items k.items;
  apart = λ rest apart. other_way (λ l. are_apart l ≡ true) xs ys rest (h.apart (ys ++ rest) (k.begins rest)
      (k.apart rest apart));
}

pub middle_both : {xs ys : Layout} → Middle xs → Middle ys → Middle (xs ++ ys)
middle_both {xs} {ys} h k = record {
  items = items_both xs ys h.items k.items;
  begins = λ rest ends. other_way (λ l. ends_item l ≡ true) xs ys rest (h.begins (ys ++ rest) (k.begins rest ends));
  apart = λ rest ends apart. other_way (λ l. are_apart l ≡ true) xs ys rest (h.apart (ys ++ rest) (k.begins rest ends)
      (k.apart rest ends apart));
}

pub middle_close : {xs ys : Layout} → Middle xs → Close ys → Close (xs ++ ys)
middle_close {xs} {ys} h k = record {
  items = items_both xs ys h.items k.items;
  begins = λ rest. other_way (λ l. ends_item l ≡ true) xs ys rest (h.begins (ys ++ rest) (k.begins rest));
  apart = λ rest apart. other_way (λ l. are_apart l ≡ true) xs ys rest (h.apart (ys ++ rest) (k.begins rest)
      (k.apart rest apart));
}

pub line_both : {xs ys : Layout} → Line xs → Line ys → Line (xs ++ ys)
line_both {xs} {ys} h k = record {
  items = items_both xs ys h.items k.items;
  apart = λ rest apart. other_way (λ l. are_apart l ≡ true) xs ys rest (h.apart (ys ++ rest) (k.apart rest apart));
}

pub close_line : {xs : Layout} → Close xs → Line xs
close_line {xs} h = record { items = h.items; apart = h.apart }

pub middle_none : Middle []
middle_none = record { items = tt; begins = λ rest ends. ends; apart = λ rest ends apart. apart }

pub line_none : Line []
line_none = record { items = tt; apart = λ rest apart. apart }

pub middle_each : {X : Type 0} (P : X → Type 0) (f : X → Layout) → ((x : X) → P x → Middle (f x)) → (xs : List X) → All P xs
    → Middle (flat_map f xs)
middle_each P f each [] all = middle_none
middle_each P f each (x ∷ xs) all = middle_both (each x (All-head P x xs all)) (middle_each P f each xs (All-tail P x xs all))

pub line_each : {X : Type 0} (P : X → Type 0) (f : X → Layout) → ((x : X) → P x → Line (f x)) → (xs : List X) → All P xs
    → Line (flat_map f xs)
line_each P f each [] all = line_none
line_each P f each (x ∷ xs) all = line_both (each x (All-head P x xs all)) (line_each P f each xs (All-tail P x xs all))

pub middle_separated : {X : Type 0} (P : X → Type 0) (first further : X → Layout) → ((x : X) → P x → Middle (first x))
    → ((x : X) → P x → Middle (further x)) → (xs : List X) → All P xs → Middle (separated first further xs)
middle_separated P first further one more [] all = middle_none
middle_separated P first further one more (x ∷ xs) all = middle_both (one x (All-head P x xs all))
    (middle_each P further more xs (All-tail P x xs all))

-- ---- small layouts

both_true : (a b : Bool) → a ≡ true → b ≡ true → (a && b) ≡ true
both_true a b e f = rw (e, f) refl

-- a blank and an item
pub spaced : (item : Item) → IsItem item → Middle (Space ∷ Is item ∷ [])
spaced item is = record {
  items = (is, tt);
  begins = λ rest ends. refl;
  apart = λ rest ends apart. both_true (is_closed item || ends_item rest) (are_apart rest)
      (or_second (is_closed item) (ends_item rest) ends) apart;
}
  where
    or_second : (a b : Bool) → b ≡ true → (a || b) ≡ true
    or_second true b e = refl
    or_second false b e = e

-- a word at the beginning of a line
pub word_start : (word : List ℕ) → is_word word ≡ true → Start (Is (Word word) ∷ [])
word_start word is = record {
  items = (is, tt);
  apart = λ rest ends apart. both_true (ends_item rest) (are_apart rest) ends
      apart;
}

-- a mark
pub mark_middle : (mark : ℕ) → IsItem (Mark mark) → Middle (Is (Mark mark) ∷ [])
mark_middle mark is = record { items = (is, tt); begins = λ rest ends. refl; apart = λ rest ends apart. apart }

pub middle_same : {xs ys : Layout} → ys ≡ xs → Middle xs → Middle ys
middle_same {xs} {ys} same h = subst (λ (l : Layout). Middle l) (sym same) h
