-- What the readers of entries read is spelled by their forms.
use Rattle.std.proofs.Common.{◌≡◌, ℕ, Bool, ◌^◌, ◌-◌, List, [], ◌∷◌, ◌++◌, map, refl, ap, subst, ◌∙◌, inl, inr}
use Rattle.std.specs.Prelude.{codes}
use Rattle.std.specs.List.{flat_map}
use Rattle.std.proofs.lemmas.List.{map-append}
use Rattle.std.proofs.lemmas.List.Concat.{flat_map-append}
use Rattle.dbc_records.specs.Records.{Entry, TableRow, ValueRow, FloatRow, MuxRow}
use Rattle.dbc_records.specs.declared.mux_row.Range.{Range}
use Rattle.dbc_records.specs.Layout.{Word, Mark, Name, Text, Whole, Int, Layout, item_of, items_of}
use Rattle.dbc_records.specs.CanonicalText.{word_layout, signal_key, spaced_name, spaced_end, statement_end, entry_layout}
use Rattle.dbc_records.specs.CanonicalText.{table_key, table_layout, values_key, values_layout, float_key, range_layout}
use Rattle.dbc_records.specs.CanonicalText.{further_range, ranges_layout, mux_key, mux_layout}
use Rattle.dbc_tokens.specs.Tokens.{Token, Cut}
use Rattle.dbc_reader.specs.Forms.{Part, Is, Perhaps, SaysPart, of_layout}
use Rattle.dbc_reader.specs.Spelling.{form, Table, Values, Float, Mux}
use Rattle.dbc_reader.specs.inner.Readers.{Reader, ◌>>=◌, value, choose}
use Rattle.dbc_reader.specs.inner.Parts.{mark_at, entry_at, entries_from}
use Rattle.dbc_reader.specs.inner.Tables.{table_at, values_at, colon_at, float_at, range_at, ranges_from, ranges_at, mux_at}
use Rattle.dbc_reader.proofs.Rounds.{ok_is}
use Rattle.dbc_reader.proofs.Sound.{Spelt, Sound, sound_then, sound_value, sound_start, sound_choose, grows_by_one, grows_repeated}
use Rattle.dbc_reader.proofs.Sound.{sound_list, first_and, sound_first, sound_end, grows_after}
use Rattle.dbc_reader.proofs.Sound.Kinds.{word_sound, mark_sound, name_sound, text_sound, whole_sound, id_sound, int_sound}

-- ---- forms of layouts, one after the other

pub of_layout-append : (xs ys : Layout) → of_layout (xs ++ ys) ≡ of_layout xs ++ of_layout ys
unfolding items_of
of_layout-append xs ys = ap (map Is) (flat_map-append item_of xs ys) ∙ map-append Is (items_of xs) (items_of ys)

of_layout-nil : of_layout [] ≡ []
unfolding items_of
of_layout-nil = refl

pub of_layout-items : {X : Type 0} (f : X → Layout) (xs : List X) → of_layout (flat_map f xs) ≡ flat_map (λ x. of_layout (f x)) xs
of_layout-items f [] = of_layout-nil
of_layout-items f (x ∷ xs) = of_layout-append (f x) (flat_map f xs) ∙ ap (λ (parts : List Part). of_layout (f x) ++ parts)
    (of_layout-items f xs)

-- ---- entries

abbrev pub entry_form : Entry → List Part
entry_form entry = Is (Int entry.number) ∷ Is (Text entry.text) ∷ []

entry_sound : Sound entry_at entry_form
unfolding entry_at
entry_sound = sound_start (sound_then int_sound λ n. sound_then text_sound λ text. sound_value refl)

entries_sound : Sound (entries_from []) (flat_map entry_form)
unfolding entries_from
entries_sound = sound_list (grows_repeated _ _ entry_form (grows_by_one entry_sound))

entries_form : (entries : List Entry) → of_layout (flat_map entry_layout entries) ≡ flat_map entry_form entries
unfolding items_of entry_layout
entries_form entries = of_layout-items entry_layout entries

-- ---- tables and value descriptions

pub table_form : (row : TableRow) → form (Table row) ≡ Is (Word (codes "VAL_TABLE_")) ∷ Is (Name row.name)
    ∷ (flat_map entry_form row.entries ++ Is (Mark 59) ∷ [])
unfolding table_layout table_key word_layout spaced_name spaced_end items_of
table_form row =
    of_layout-append (table_key row) (flat_map entry_layout row.entries ++ spaced_end)
    ∙ ap (λ (parts : List Part). Is (Word (codes "VAL_TABLE_")) ∷ Is (Name row.name) ∷ parts)
    (of_layout-append (flat_map entry_layout row.entries) spaced_end ∙ ap (λ (parts : List Part). parts ++ Is (Mark 59) ∷ [])
    (entries_form row.entries))

pub table_sound : Sound table_at (λ row. form (Table row))
unfolding table_at
table_sound =
    sound_start (sound_then (word_sound (codes "VAL_TABLE_")) λ _. sound_then name_sound λ name. sound_then entries_sound λ entries.
    sound_then (mark_sound 59) λ _.
    sound_value (table_form (record { name = name; entries = entries })))

pub values_form : (row : ValueRow) → form (Values row) ≡ Is (Word (codes "VAL_")) ∷ Is (Whole row.number) ∷ Is (Name row.signal)
    ∷ (flat_map entry_form row.entries ++ Is (Mark 59) ∷ [])
unfolding values_layout values_key word_layout signal_key spaced_end items_of
values_form row =
    of_layout-append (values_key row) (flat_map entry_layout row.entries ++ spaced_end)
    ∙ ap (λ (parts : List Part). Is (Word (codes "VAL_")) ∷ Is (Whole row.number) ∷ Is (Name row.signal) ∷ parts)
    (of_layout-append (flat_map entry_layout row.entries) spaced_end ∙ ap (λ (parts : List Part). parts ++ Is (Mark 59) ∷ [])
    (entries_form row.entries))

pub values_sound : Sound values_at (λ row. form (Values row))
unfolding values_at
values_sound =
    sound_start (sound_then (word_sound (codes "VAL_")) λ _. sound_then id_sound λ number. sound_then name_sound λ signal.
    sound_then entries_sound λ entries. sound_then (mark_sound 59) λ _.
    sound_value (values_form (record { number = number; signal = signal; entries = entries })))

-- ---- float types

pub perhaps_mark : (test : Token → Bool) (mark : ℕ) {r : Reader (Unit {0})} → Sound r (λ _. Is (Mark mark) ∷ [])
    → Sound (choose test r (value tt)) (λ _. Perhaps mark ∷ [])
perhaps_mark test mark {r} h = sound_choose test (sound_other (λ tokens means. inr means) h) sound_missing
  where
    sound_other : ((tokens : List Token) → SaysPart (Is (Mark mark)) tokens → SaysPart (Perhaps mark) tokens)
        → Sound r (λ _. Is (Mark mark) ∷ []) → Sound r (λ _. Perhaps mark ∷ [])
    sound_other other h = record {
      spelt = λ cut x e. (let y = h.spelt cut x e in
          record {
            front = y.front;
            occurs = y.occurs;
            spelled = (
              y.spelled.0,
              y.spelled.1,
              y.spelled.2,
              other y.spelled.0 y.spelled.3,
              y.spelled.4,
            );
          });
    }

    sound_missing : Sound (value (tt {0})) (λ _. Perhaps mark ∷ [])
    sound_missing = record {
      spelt = λ cut x e. subst (λ (y : Unit {0} × Cut). Spelt (Perhaps mark ∷ []) cut y.1)
          (ok_is (tt, cut) x e) (record { front = []; occurs = refl; spelled = ([], [], refl, inl refl, refl) });
    }

colon_sound : Sound colon_at (λ _. Perhaps 58 ∷ [])
unfolding colon_at
colon_sound = perhaps_mark _ 58 (mark_sound 58)

pub float_form : (row : FloatRow) → form (Float row) ≡ Is (Word (codes "SIG_VALTYPE_")) ∷ Is (Whole row.number)
    ∷ Is (Name row.signal) ∷ Perhaps 58 ∷ Is (Whole row.kind) ∷ Is (Mark 59) ∷ []
unfolding float_key word_layout signal_key items_of
float_form row = refl

pub float_sound : Sound float_at (λ row. form (Float row))
unfolding float_at
float_sound =
    sound_start (sound_then (word_sound (codes "SIG_VALTYPE_")) λ _. sound_then id_sound λ number. sound_then name_sound λ signal.
    sound_then colon_sound λ _.
    sound_then (whole_sound 0 2) λ kind. sound_then (mark_sound 59) λ _. sound_value
    (float_form (record { number = number; signal = signal; kind = kind })))

-- ---- multiplexing

abbrev pub range_form : Range → List Part
range_form range = Is (Whole range.first) ∷ Is (Mark 45) ∷ Is (Whole range.last) ∷ []

abbrev pub further_form : Range → List Part
further_form range = Is (Mark 44) ∷ range_form range

range_sound : Sound range_at range_form
unfolding range_at
range_sound = sound_start (sound_then (whole_sound 0 (2 ^ 64 - 1)) λ first. sound_then (mark_sound 45) λ _. sound_then
    (whole_sound 0 (2 ^ 64 - 1)) λ last. sound_value refl)

further_sound : Sound (mark_at 44 >>= λ _. range_at) further_form
further_sound = sound_start (sound_then (mark_sound 44) λ _. sound_end range_sound λ range. refl)

ranges_sound : Sound ranges_at (first_and range_form further_form)
unfolding ranges_at ranges_from
ranges_sound = sound_first range_sound (grows_repeated _ _ further_form (grows_after (mark_at 44) range_at further_sound))

ranges_layout_form : (ranges : List Range) → of_layout (ranges_layout ranges) ≡ first_and range_form further_form ranges
unfolding ranges_layout range_layout further_range items_of
ranges_layout_form [] = refl
ranges_layout_form (range ∷ ranges) =
    of_layout-append (range_layout range) (flat_map further_range ranges) ∙ ap (λ (parts : List Part). range_form range ++ parts)
    (of_layout-items further_range ranges)

pub mux_form : (row : MuxRow) → form (Mux row) ≡ Is (Word (codes "SG_MUL_VAL_")) ∷ Is (Whole row.number) ∷ Is (Name row.signal)
    ∷ Is (Name row.switch) ∷ (first_and range_form further_form row.ranges ++ Is (Mark 59) ∷ [])
unfolding mux_layout mux_key word_layout signal_key spaced_name statement_end items_of
mux_form row =
    of_layout-append (mux_key row) (spaced_name row.switch ++ (ranges_layout row.ranges ++ statement_end))
    ∙ ap (λ (parts : List Part). Is (Word (codes "SG_MUL_VAL_")) ∷ Is (Whole row.number) ∷ Is (Name row.signal) ∷ parts)
    (of_layout-append (spaced_name row.switch) (ranges_layout row.ranges ++ statement_end)
    ∙ ap (λ (parts : List Part). Is (Name row.switch) ∷ parts) (of_layout-append (ranges_layout row.ranges) statement_end
    ∙ ap (λ (parts : List Part). parts ++ Is (Mark 59) ∷ []) (ranges_layout_form row.ranges)))

pub mux_sound : Sound mux_at (λ row. form (Mux row))
unfolding mux_at
mux_sound =
    sound_start (sound_then (word_sound (codes "SG_MUL_VAL_")) λ _. sound_then id_sound λ number. sound_then name_sound λ signal.
    sound_then name_sound λ switch.
    sound_then ranges_sound λ ranges. sound_then (mark_sound 59) λ _.
    sound_value (mux_form (record { number = number; signal = signal; switch = switch; ranges = ranges })))
