-- Each edit leaves messages and entries of other CAN identifiers as they were.
use Rattle.std.proofs.Common.{◌≡◌, ℕ, Bool, true, false, List, [], ◌∷◌, refl, sym, ap, subst, ◌∙◌, inl, inr}
use Rattle.std.specs.Prelude.{not, ◌==◌, Option, Some, None, Result, Ok, filter, remove, slice_get}
use Rattle.std.proofs.lemmas.Bool.{cases_Bool, both_ways, and_parts, eqb-true, eq-eqb, or_parts, or_right}
use Rattle.dbc_records.specs.Records.{Message, Head, Signal, ValueRow, FloatRow, MuxRow, TableRow}
use Rattle.dbc_records.specs.Attributes.{AttrRow}
use Rattle.dbc_records.specs.Databases.{Database}
use Rattle.dbc_records.specs.declared.target.Target.{Target}
use Rattle.dbc_records.specs.declared.target.Target.TheVariants as targets
use Rattle.dbc_records.specs.declared.attribute.AttrValue.{AttrValue}
use Rattle.dbc_edits.specs.declared.edit.Edit.{Edit}
use Rattle.dbc_edits.specs.declared.edit.Edit.TheVariants as edits
use Rattle.dbc_edits.specs.declared.refusal.Refusal.{Refusal}
use Rattle.dbc_edits.specs.Changes.{Change}
use Rattle.dbc_edits.specs.Rows.{without, with_item, is_of_number, is_of_signal, values_target, float_target, mux_target}
use Rattle.dbc_edits.specs.Rows.{without_rows, renumbered, target_renumbered, attribute_renumbered, values_renumbered}
use Rattle.dbc_edits.specs.Rows.{float_renumbered, mux_renumbered, rows_renumbered, Renaming, name_after, target_renamed}
use Rattle.dbc_edits.specs.Rows.{attribute_renamed, values_renamed, float_renamed, mux_renamed, rows_renamed, is_values_of}
use Rattle.dbc_edits.specs.Rows.{is_mux_of, is_attribute_of}
use Rattle.dbc_edits.specs.Edits.{at_message, refused_if, message_added, has_number, cleared_of_number, message_removed}
use Rattle.dbc_edits.specs.Edits.{with_message, message_changed, message_renumbered, signal_added, has_signal, cleared_of_signal}
use Rattle.dbc_edits.specs.Edits.{signal_removed, signal_changed, signal_renamed, mux_set, values_set, mux_dropped, values_dropped}
use Rattle.dbc_edits.specs.Edits.{table_set, table_dropped, attribute_set, attribute_dropped, edited}
use Rattle.can_entries.specs.Rows.{rows_of}
use Rattle.dbc_records.specs.Comments.{is_for_message}
use Rattle.can_entries.specs.Groups.{gives_format, format_row}
use Rattle.session_log.specs.Touched.{is_among, number_at, edit_numbers}
use Rattle.session_log.specs.Elsewhere.{is_elsewhere, SameElsewhere}
use Rattle.session_log.proofs.ListFacts.{find-by_filter, filter-without, filter-with_item, filter-insert, filter-remove}
use Rattle.session_log.proofs.ListFacts.{filter-set}
use Rattle.session_log.proofs.ListFacts.{filter-map}

-- ---- what an accepted edit did

abbrev accepted : Database → Result Database Refusal
accepted d = Ok d

Ok-same : (x y : Database) → accepted x ≡ accepted y → x ≡ y
Ok-same x y e = cc

passed : (test : Bool) (refusal : Refusal) (otherwise : Result Database Refusal) (e : Database) → refused_if test refusal otherwise
    ≡ Ok e → otherwise ≡ Ok e
unfolding refused_if
passed true refusal otherwise e ok = absurd (cc)
passed false refusal otherwise e ok = ok

record Found (index : Option Message) (change : Message → Result Database Refusal) (e : Database) : Type 0 where
  message : Message
  occurs : index ≡ Some message
  done : change message ≡ Ok e

found_at : (index : Option Message) (change : Message → Result Database Refusal) (e : Database) → at_message index change ≡ Ok e
    → Found index change e
unfolding at_message
found_at None change e ok = absurd (cc)
found_at (Some message) change e ok = record { message = message; occurs = refl; done = ok }

-- ---- entries, as far as decoding reads them

abbrev OfNumber : (X : Type 0) → (X → ℕ) → ℕ → List X → List X → Type 0
OfNumber X number_of n after before = filter (λ (row : X). number_of row == n) after ≡ filter (λ (row : X). number_of row == n)
    before

rows-same : (d e : Database) (n : ℕ)
    → OfNumber ValueRow (λ row. row.number) n e.values d.values → OfNumber FloatRow (λ row. row.number) n e.floats d.floats
    → OfNumber MuxRow (λ row. row.number) n e.muxes d.muxes
    → rows_of n e ≡ rows_of n d
unfolding rows_of
rows-same d e n values floats muxes = rw (values, floats, muxes) refl

abbrev AttributesOf : ℕ → List AttrRow → List AttrRow → Type 0
AttributesOf n after before = filter (λ (row : AttrRow). is_for_message n row.target) after
    ≡ filter (λ (row : AttrRow). is_for_message n row.target) before

formats-same : (d e : Database) (n : ℕ) → AttributesOf n e.attributes d.attributes → format_row n e ≡ format_row n d
unfolding format_row
formats-same d e n same = find-by_filter (gives_format n) (λ row. is_for_message n row.target) (λ row t. (and_parts _ _ t).1)
    d.attributes e.attributes same

-- ---- CAN identifiers

itself : (n : ℕ) → not (is_among (n ∷ []) n) ≡ false
itself n = rw (eq-eqb n n refl) refl

-- no other CAN identifier is this one
other : (k n m : ℕ) → is_among (k ∷ []) n ≡ false → (m == k) ≡ true → (m == n) ≡ false
other k n m out is = let same = eqb-true m k is in rw same (or_parts (k == n) false out).0

other_target : (k n : ℕ) (target : Target) → is_among (k ∷ []) n ≡ false → is_of_number k target ≡ true → is_for_message n target
    ≡ false
other_target k n targets.Whole out is = refl
other_target k n (targets.Node name) out is = refl
other_target k n (targets.Message m) out is = other k n m out is
other_target k n (targets.Signal m name) out is = refl

of_signal : (k : ℕ) (name : List ℕ) (target : Target) → is_of_signal k name target ≡ true → is_of_number k target ≡ true
of_signal k name targets.Whole is = absurd (cc)
of_signal k name (targets.Node other) is = absurd (cc)
of_signal k name (targets.Message m) is = absurd (cc)
of_signal k name (targets.Signal m signal) is = (and_parts _ _ is).0

of_message : (k : ℕ) (target : Target) → is_for_message k target ≡ true → is_of_number k target ≡ true
of_message k targets.Whole is = absurd (cc)
of_message k (targets.Node other) is = absurd (cc)
of_message k (targets.Message m) is = is
of_message k (targets.Signal m signal) is = absurd (cc)

-- ---- messages alone

same_rows : (numbers : List ℕ) (d e : Database) → filter (is_elsewhere numbers) e.messages ≡ filter (is_elsewhere numbers)
    d.messages
    → e.values ≡ d.values → e.floats ≡ d.floats → e.muxes ≡ d.muxes → e.attributes ≡ d.attributes → e.defaults ≡ d.defaults
    → e.definitions ≡ d.definitions → e.nodes ≡ d.nodes
    → SameElsewhere numbers d e
same_rows numbers d e messages values floats muxes attributes defaults definitions nodes = record {
  messages = messages;
  rows = λ n out. rows-same d e n (rw values refl) (rw floats refl) (rw muxes refl);
  formats = λ n out. formats-same d e n (rw attributes refl);
  defaults = defaults;
  definitions = definitions;
  nodes = nodes;
}

with_messages : (numbers : List ℕ) (d : Database) (messages : List Message) → filter (is_elsewhere numbers) messages
    ≡ filter (is_elsewhere numbers) d.messages
    → SameElsewhere numbers d (record d { messages = messages })
with_messages numbers d messages same =
    same_rows numbers d (record d { messages = messages }) same refl refl refl refl refl refl refl

unchanged : (numbers : List ℕ) (d : Database) → SameElsewhere numbers d d
unchanged numbers d = same_rows numbers d d refl refl refl refl refl refl refl refl

one_then : (numbers : List ℕ) (d e f : Database) → SameElsewhere numbers d e → SameElsewhere numbers e f → SameElsewhere numbers d f
one_then numbers d e f s t = record {
  messages = t.messages ∙ s.messages;
  rows = λ n out. t.rows n out ∙ s.rows n out;
  formats = λ n out. t.formats n out ∙ s.formats n out;
  defaults = t.defaults ∙ s.defaults;
  definitions = t.definitions ∙ s.definitions;
  nodes = t.nodes ∙ s.nodes;
}

-- a message in place of another of the same CAN identifier
in_place : (index : ℕ) (old new : Message) (d : Database) → slice_get d.messages index ≡ Some old
    → new.head.number ≡ old.head.number
    → SameElsewhere (old.head.number ∷ []) d (with_message index new d)
in_place index old new d occurs same =
    with_messages (old.head.number ∷ []) d _ (filter-set _ d.messages index old new occurs (itself old.head.number)
    (rw same (itself old.head.number)))

added : (index : ℕ) (head : Head) (d e : Database) → message_added index head d ≡ Ok e → SameElsewhere (head.number ∷ []) d e
unfolding message_added
added index head d e ok =
    subst (SameElsewhere (head.number ∷ []) d) (Ok-same _ e (passed _ _ _ e (passed _ _ _ e ok)))
    (with_messages (head.number ∷ []) d _ (filter-insert _ d.messages index _ (itself head.number)))

changed_at : (index : ℕ) (change : Change) (d e : Database) → message_changed index change d ≡ Ok e
    → SameElsewhere (number_at index d) d e
unfolding message_changed
changed_at index change d e ok =
    let found = found_at _ _ e ok in
    rw found.occurs (subst (SameElsewhere (found.message.head.number ∷ []) d) (Ok-same _ e found.done)
    (in_place index found.message _ d found.occurs refl))

signal_added_at : (index at : ℕ) (signal : Signal) (d e : Database) → signal_added index at signal d ≡ Ok e
    → SameElsewhere (number_at index d) d e
unfolding signal_added
signal_added_at index at signal d e ok =
    let found = found_at _ _ e ok in
    rw found.occurs (subst (SameElsewhere (found.message.head.number ∷ []) d)
    (Ok-same _ e (passed _ _ _ e (passed _ _ _ e (passed _ _ _ e found.done)))) (in_place index found.message _ d found.occurs
    refl))

signal_changed_at : (index : ℕ) (signal : Signal) (d e : Database) → signal_changed index signal d ≡ Ok e
    → SameElsewhere (number_at index d) d e
unfolding signal_changed
signal_changed_at index signal d e ok =
    let found = found_at _ _ e ok in
    rw found.occurs (subst (SameElsewhere (found.message.head.number ∷ []) d) (Ok-same _ e (passed _ _ _ e found.done))
    (in_place index found.message _ d found.occurs refl))

-- ---- entries that are removed

rows_gone : (k : ℕ) (test : Target → Bool) (d : Database) → ((target : Target) → test target ≡ true → is_of_number k target ≡ true)
    → SameElsewhere (k ∷ []) d (without_rows test d)
unfolding without_rows
rows_gone k test d own = record {
  messages = refl;
  rows = λ n out. rows-same d _ n
      (filter-without _ _ (λ row is. other k n row.number out (own (values_target row) is)) d.values)
      (filter-without _ _ (λ row is. other k n row.number out (own (float_target row) is)) d.floats)
      (filter-without _ _ (λ row is. other k n row.number out (own (mux_target row) is)) d.muxes);
  formats = λ n out. formats-same d _ n (filter-without _ _ (λ row is. other_target k n row.target out (own row.target is))
      d.attributes);
  defaults = refl;
  definitions = refl;
  nodes = refl;
}

cleared_number : (k : ℕ) (d : Database) → SameElsewhere (k ∷ []) d (cleared_of_number k d)
cleared_number k d =
    elim (cases_Bool (has_number k d.messages)) [
      | inl shared ↦ rw shared (unchanged (k ∷ []) d)
      | inr alone ↦ rw alone (rows_gone k (is_of_number k) d (λ target is. is))
    ]

cleared_signal : (k : ℕ) (name : List ℕ) (d : Database) → SameElsewhere (k ∷ []) d (cleared_of_signal k name d)
cleared_signal k name d =
    elim (cases_Bool (has_signal k name d.messages)) [
      | inl shared ↦ rw shared (unchanged (k ∷ []) d)
      | inr alone ↦ rw alone (rows_gone k (is_of_signal k name) d (of_signal k name))
    ]

removed_at : (index : ℕ) (d e : Database) → message_removed index d ≡ Ok e → SameElsewhere (number_at index d) d e
unfolding message_removed
removed_at index d e ok =
    let found = found_at _ _ e ok in
    let number : ℕ = found.message.head.number in
    let taken : Database = record d { messages = remove d.messages index } in
    rw found.occurs
    (subst (SameElsewhere (number ∷ []) d) (Ok-same _ e found.done)
    (one_then (number ∷ []) d taken (cleared_of_number number taken)
    (with_messages (number ∷ []) d _ (filter-remove _ d.messages index found.message found.occurs (itself number)))
    (cleared_number number taken)))

signal_removed_at : (index : ℕ) (name : List ℕ) (d e : Database) → signal_removed index name d ≡ Ok e
    → SameElsewhere (number_at index d) d e
unfolding signal_removed
signal_removed_at index name d e ok =
    let found = found_at _ _ e ok in
    let number : ℕ = found.message.head.number in
    rw found.occurs
    (subst (SameElsewhere (number ∷ []) d) (Ok-same _ e (passed _ _ _ e found.done))
    (one_then (number ∷ []) d _ _
    (in_place index found.message _ d found.occurs refl)
    (cleared_signal number name _)))

-- ---- renumbering

both_out : (new old n : ℕ) → is_among (new ∷ old ∷ []) n ≡ false → ((new == n) ≡ false) × ((old == n) ≡ false)
both_out new old n out = let parts = or_parts (new == n) _ out in (parts.0, (or_parts (old == n) false parts.1).0)

number_keeps : (old new n m : ℕ) → is_among (new ∷ old ∷ []) n ≡ false → (m == n) ≡ true → renumbered old new m ≡ m
number_keeps old new n m out is =
    elim (cases_Bool (m == old)) [
      | inl t ↦ (let same = eqb-true m old t in let here = eqb-true m n is in
          absurd (both_ways (old == n) (both_out new old n out).1 (eq-eqb old n (sym same ∙ here))))
      | inr f ↦ rw f refl
    ]

number_stays : (old new n m : ℕ) → is_among (new ∷ old ∷ []) n ≡ false → (m == n) ≡ false → (renumbered old new m == n) ≡ false
number_stays old new n m out isnt =
    elim (cases_Bool (m == old)) [ inl t ↦ rw t (both_out new old n out).0 | inr f ↦ rw f isnt ]

target_keeps : (old new n : ℕ) (target : Target) → is_among (new ∷ old ∷ []) n ≡ false → is_for_message n target ≡ true
    → target_renumbered old new target ≡ target
target_keeps old new n targets.Whole out is = refl
target_keeps old new n (targets.Node name) out is = refl
target_keeps old new n (targets.Message m) out is = ap targets.Message (number_keeps old new n m out is)
target_keeps old new n (targets.Signal m name) out is = absurd (cc)

target_stays : (old new n : ℕ) (target : Target) → is_among (new ∷ old ∷ []) n ≡ false → is_for_message n target ≡ false
    → is_for_message n (target_renumbered old new target) ≡ false
target_stays old new n targets.Whole out isnt = refl
target_stays old new n (targets.Node name) out isnt = refl
target_stays old new n (targets.Message m) out isnt = number_stays old new n m out isnt
target_stays old new n (targets.Signal m name) out isnt = refl

rows_moved : (old new : ℕ) (d : Database) → SameElsewhere (new ∷ old ∷ []) d (rows_renumbered old new d)
unfolding rows_renumbered
rows_moved old new d = record {
  messages = refl;
  rows = λ n out. rows-same d _ n
      (filter-map _ (values_renumbered old new) (λ row is. rw (number_keeps old new n row.number out is) refl)
      (λ row isnt. number_stays old new n row.number out isnt) d.values)
      (filter-map _ (float_renumbered old new) (λ row is. rw (number_keeps old new n row.number out is) refl)
      (λ row isnt. number_stays old new n row.number out isnt) d.floats)
      (filter-map _ (mux_renumbered old new) (λ row is. rw (number_keeps old new n row.number out is) refl)
      (λ row isnt. number_stays old new n row.number out isnt) d.muxes);
  formats = λ n out. formats-same d _ n
      (filter-map _ (attribute_renumbered old new) (λ row is. rw (target_keeps old new n row.target out is) refl)
      (λ row isnt. target_stays old new n row.target out isnt) d.attributes);
  defaults = refl;
  definitions = refl;
  nodes = refl;
}

renumbered_at : (index new : ℕ) (d e : Database) → message_renumbered index new d ≡ Ok e
    → SameElsewhere (new ∷ number_at index d) d e
unfolding message_renumbered
renumbered_at index new d e ok =
    let found = found_at _ _ e ok in
    let old : ℕ = found.message.head.number in
    rw found.occurs
    (subst (SameElsewhere (new ∷ old ∷ []) d) (Ok-same _ e (passed _ _ _ e (passed _ _ _ e found.done)))
    (one_then (new ∷ old ∷ []) d _ _
    (with_messages (new ∷ old ∷ []) d _ (filter-set _ d.messages index found.message _ found.occurs (rw (
      eq-eqb old old refl,
      or_right (new == old) true refl,
    ) refl) (rw (eq-eqb new new refl) refl)))
    (rows_moved old new _)))

-- ---- renaming

name_keeps : (r : Renaming) (n m : ℕ) (name : List ℕ) → is_among (r.number ∷ []) n ≡ false → (m == n) ≡ true → name_after r m name
    ≡ name
name_keeps r n m name out is =
    elim (cases_Bool (m == r.number)) [ inl t ↦ absurd (both_ways (m == n) (other r.number n m out t) is) | inr f ↦ rw f refl ]

-- the target of a message names no signal
message_keeps : (r : Renaming) (n : ℕ) (target : Target) → is_for_message n target ≡ true → target_renamed r target ≡ target
message_keeps r n targets.Whole is = refl
message_keeps r n (targets.Node name) is = refl
message_keeps r n (targets.Message m) is = refl
message_keeps r n (targets.Signal m name) is = absurd (cc)

message_stays : (r : Renaming) (n : ℕ) (target : Target) → is_for_message n target ≡ false
    → is_for_message n (target_renamed r target) ≡ false
message_stays r n targets.Whole isnt = refl
message_stays r n (targets.Node name) isnt = refl
message_stays r n (targets.Message m) isnt = isnt
message_stays r n (targets.Signal m name) isnt = refl

rows_named : (r : Renaming) (d : Database) → SameElsewhere (r.number ∷ []) d (rows_renamed r d)
unfolding rows_renamed
rows_named r d = record {
  messages = refl;
  rows = λ n out. rows-same d _ n
      (filter-map _ (values_renamed r) (λ row is. rw (name_keeps r n row.number row.signal out is) refl) (λ row isnt. isnt)
      d.values)
      (filter-map _ (float_renamed r) (λ row is. rw (name_keeps r n row.number row.signal out is) refl) (λ row isnt. isnt) d.floats)
      (filter-map _ (mux_renamed r) (λ row is. rw (
        name_keeps r n row.number row.signal out is,
        name_keeps r n row.number row.switch out is,
      ) refl) (λ row isnt. isnt) d.muxes);
  formats = λ n out. formats-same d _ n
      (filter-map _ (attribute_renamed r) (λ row is. rw (message_keeps r n row.target is) refl)
      (λ row isnt. message_stays r n row.target isnt) d.attributes);
  defaults = refl;
  definitions = refl;
  nodes = refl;
}

signal_renamed_at : (index : ℕ) (old new : List ℕ) (d e : Database) → signal_renamed index old new d ≡ Ok e
    → SameElsewhere (number_at index d) d e
unfolding signal_renamed
signal_renamed_at index old new d e ok =
    let found = found_at _ _ e ok in
    let number : ℕ = found.message.head.number in
    rw found.occurs
    (subst (SameElsewhere (number ∷ []) d)
    (Ok-same _ e (passed _ _ _ e (passed _ _ _ e (passed _ _ _ e (passed _ _ _ e found.done)))))
    (one_then (number ∷ []) d _ _
    (in_place index found.message _ d found.occurs refl)
    (rows_named _ _)))

-- ---- entries that are set and dropped

values_put : (row : ValueRow) (d : Database)
    → SameElsewhere (row.number ∷ []) d (record d { values = with_item (is_values_of row.number row.signal) row d.values })
values_put row d = record {
  messages = refl;
  rows = λ n out. rows-same d _ n (filter-with_item _ (is_values_of row.number row.signal) row
      (λ old is. other row.number n old.number out (and_parts _ _ is).0) (or_parts _ false out).0 d.values) refl refl;
  formats = λ n out. formats-same d _ n refl;
  defaults = refl;
  definitions = refl;
  nodes = refl;
}

mux_put : (row : MuxRow) (d : Database)
    → SameElsewhere (row.number ∷ []) d (record d { muxes = with_item (is_mux_of row.number row.signal) row d.muxes })
mux_put row d = record {
  messages = refl;
  rows = λ n out. rows-same d _ n refl refl (filter-with_item _ (is_mux_of row.number row.signal) row
      (λ old is. other row.number n old.number out (and_parts _ _ is).0) (or_parts _ false out).0 d.muxes);
  formats = λ n out. formats-same d _ n refl;
  defaults = refl;
  definitions = refl;
  nodes = refl;
}

values_gone : (k : ℕ) (name : List ℕ) (d : Database)
    → SameElsewhere (k ∷ []) d (record d { values = without (is_values_of k name) d.values })
values_gone k name d = record {
  messages = refl;
  rows = λ n out. rows-same d _ n (filter-without _ _ (λ old is. other k n old.number out (and_parts _ _ is).0) d.values) refl refl;
  formats = λ n out. formats-same d _ n refl;
  defaults = refl;
  definitions = refl;
  nodes = refl;
}

mux_gone : (k : ℕ) (name : List ℕ) (d : Database)
    → SameElsewhere (k ∷ []) d (record d { muxes = without (is_mux_of k name) d.muxes })
mux_gone k name d = record {
  messages = refl;
  rows = λ n out. rows-same d _ n refl refl (filter-without _ _ (λ old is. other k n old.number out (and_parts _ _ is).0) d.muxes);
  formats = λ n out. formats-same d _ n refl;
  defaults = refl;
  definitions = refl;
  nodes = refl;
}

attribute_put : (name : List ℕ) (k : ℕ) (row : AttrRow) (d : Database) → row.target ≡ targets.Message k
    → SameElsewhere (k ∷ []) d (record d { attributes = with_item (is_attribute_of name k) row d.attributes })
attribute_put name k row d target = record {
  messages = refl;
  rows = λ n out. rows-same d _ n refl refl refl;
  formats = λ n out. formats-same d _ n (filter-with_item _ (is_attribute_of name k) row (λ old is. other_target k n old.target out
      (of_message k old.target (and_parts _ _ is).0)) (rw target (or_parts _ false out).0) d.attributes);
  defaults = refl;
  definitions = refl;
  nodes = refl;
}

attribute_gone : (name : List ℕ) (k : ℕ) (d : Database)
    → SameElsewhere (k ∷ []) d (record d { attributes = without (is_attribute_of name k) d.attributes })
attribute_gone name k d = record {
  messages = refl;
  rows = λ n out. rows-same d _ n refl refl refl;
  formats =
      λ n out. formats-same d _ n (filter-without _ _ (λ old is. other_target k n old.target out
      (of_message k old.target (and_parts _ _ is).0)) d.attributes);
  defaults = refl;
  definitions = refl;
  nodes = refl;
}

module _ (d e : Database) where
  values_set_at : (row : ValueRow) → values_set row d ≡ Ok e → SameElsewhere (row.number ∷ []) d e
  unfolding values_set
  values_set_at row ok = subst (SameElsewhere (row.number ∷ []) d) (Ok-same _ e (passed _ _ _ e (passed _ _ _ e ok)))
      (values_put row d)

  mux_set_at : (row : MuxRow) → mux_set row d ≡ Ok e → SameElsewhere (row.number ∷ []) d e
  unfolding mux_set
  mux_set_at row ok = subst (SameElsewhere (row.number ∷ []) d) (Ok-same _ e (passed _ _ _ e (passed _ _ _ e ok))) (mux_put row d)

  values_dropped_at : (k : ℕ) (name : List ℕ) → values_dropped k name d ≡ Ok e → SameElsewhere (k ∷ []) d e
  unfolding values_dropped
  values_dropped_at k name ok = subst (SameElsewhere (k ∷ []) d) (Ok-same _ e (passed _ _ _ e ok)) (values_gone k name d)

  mux_dropped_at : (k : ℕ) (name : List ℕ) → mux_dropped k name d ≡ Ok e → SameElsewhere (k ∷ []) d e
  unfolding mux_dropped
  mux_dropped_at k name ok = subst (SameElsewhere (k ∷ []) d) (Ok-same _ e (passed _ _ _ e ok)) (mux_gone k name d)

  table_set_at : (row : TableRow) → table_set row d ≡ Ok e → SameElsewhere [] d e
  unfolding table_set
  table_set_at row ok = subst (SameElsewhere [] d) (Ok-same _ e ok) (same_rows [] d _ refl refl refl refl refl refl refl
      refl)

  table_dropped_at : (name : List ℕ) → table_dropped name d ≡ Ok e → SameElsewhere [] d e
  unfolding table_dropped
  table_dropped_at name ok = subst (SameElsewhere [] d) (Ok-same _ e (passed _ _ _ e ok)) (same_rows [] d _ refl refl refl refl refl
      refl refl refl)

  attribute_set_at : (name : List ℕ) (k : ℕ) (value : AttrValue) → attribute_set name k value d ≡ Ok e → SameElsewhere (k ∷ []) d e
  unfolding attribute_set
  attribute_set_at name k value ok = subst (SameElsewhere (k ∷ []) d) (Ok-same _ e (passed _ _ _ e (passed _ _ _ e ok)))
      (attribute_put name k _ d refl)

  attribute_dropped_at : (name : List ℕ) (k : ℕ) → attribute_dropped name k d ≡ Ok e → SameElsewhere (k ∷ []) d e
  unfolding attribute_dropped
  attribute_dropped_at name k ok = subst (SameElsewhere (k ∷ []) d) (Ok-same _ e (passed _ _ _ e ok)) (attribute_gone name k d)

-- ---- all edits

-- an accepted edit leaves messages and entries of other CAN identifiers as they were
pub others : (d e : Database) (edit : Edit) → edited d edit ≡ Ok e → SameElsewhere (edit_numbers d edit) d e
others d e (edits.AddMessage index head) ok = added index head d e ok
others d e (edits.RemoveMessage index) ok = removed_at index d e ok
others d e (edits.ChangeMessage index change) ok = changed_at index change d e ok
others d e (edits.Renumber index number) ok = renumbered_at index number d e ok
others d e (edits.AddSignal index at signal) ok = signal_added_at index at signal d e ok
others d e (edits.RemoveSignal index name) ok = signal_removed_at index name d e ok
others d e (edits.ChangeSignal index signal) ok = signal_changed_at index signal d e ok
others d e (edits.RenameSignal index old new) ok = signal_renamed_at index old new d e ok
others d e (edits.SetMux row) ok = mux_set_at d e row ok
others d e (edits.SetValues row) ok = values_set_at d e row ok
others d e (edits.DropMux k signal) ok = mux_dropped_at d e k signal ok
others d e (edits.DropValues k signal) ok = values_dropped_at d e k signal ok
others d e (edits.DropTable name) ok = table_dropped_at d e name ok
others d e (edits.SetTable row) ok = table_set_at d e row ok
others d e (edits.SetAttribute name k value) ok = attribute_set_at d e name k value ok
others d e (edits.DropAttribute name k) ok = attribute_dropped_at d e name k ok
