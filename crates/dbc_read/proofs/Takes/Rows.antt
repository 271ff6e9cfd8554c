-- Lists and entries that are spelled are read.
use Rattle.std.proofs.Common.{◌≡◌, ℕ, ◌<◌, ◌^◌, ◌-◌, Bool, true, false, ◌||◌, List, [], ◌∷◌, ◌++◌, length, ◌≤◌, Ok, append-nil}
use Rattle.std.proofs.Common.{refl, sym, ap, subst, ◌∙◌, arith, inl, inr}
use Rattle.std.specs.Prelude.{codes, nat_le, All}
use Rattle.std.proofs.lemmas.Grind.{common_steps}
use Rattle.std.proofs.lemmas.List.Elements.{All-head, All-tail}
use Rattle.std.specs.List.{flat_map}
use Rattle.std.specs.Str.{bytes_eq}
use Rattle.dbc_values.specs.Lexical.{is_number}
use Rattle.dbc_values.specs.Numbers.{whole_of_number}
use Rattle.dbc_records.specs.Records.{Entry, IsEntry, TableRow, IsTableRow, ValueRow, IsValueRow, FloatRow, IsFloatRow, IsRange}
use Rattle.dbc_records.specs.Records.{MuxRow, IsMuxRow}
use Rattle.dbc_records.specs.declared.mux_row.Range.{Range}
use Rattle.dbc_records.specs.Layout.{Word, Mark, Name, Whole}
use Rattle.dbc_tokens.specs.Tokens.{Token, Cut}
use Rattle.dbc_reader.specs.Classes.{has_mark, has_whole, is_whole_number}
use Rattle.dbc_reader.specs.Forms.{Part, Is, Perhaps, SaysPart, SpellsNumber, Spelled, ◌▸▸◌}
use Rattle.dbc_reader.specs.Spelling.{form, Table, Values, Float, Mux}
use Rattle.dbc_reader.specs.inner.Readers.{choose, value}
use Rattle.dbc_reader.specs.inner.Parts.{mark_at, begins_int, entry_at, entries_from}
use Rattle.dbc_reader.specs.inner.Tables.{table_at, values_at, colon_at, float_at, range_at, ranges_from, ranges_at, mux_at}
use Rattle.dbc_reader.proofs.Rounds.{bind_shrinks, bind_keeps, keeps, value_keeps}
use Rattle.dbc_reader.proofs.Rounds.Lists.{mark_shrinks, entry_shrinks, range_shrinks}
use Rattle.dbc_reader.proofs.Sound.{first_and}
use Rattle.dbc_reader.proofs.Sound.Rows.{entry_form, table_form, values_form, float_form, range_form, further_form, mux_form}
use Rattle.dbc_read.proofs.Takes.{Takes, Anything, Opens, Stops, takes_value, takes_then, takes_next, takes_as, takes_where}
use Rattle.dbc_read.proofs.Takes.{takes_first, takes_none, opens_one, allows_stop, takes_list, alone}
use Rattle.dbc_read.proofs.Takes.Kinds.{is_the_mark, number_is_no_mark, Within, within, word_takes, mark_takes, name_takes}
use Rattle.dbc_read.proofs.Takes.Kinds.{text_takes, whole_takes, id_takes, int_takes, int_opens}

-- ---- a mark after a list

pub mark_opens : (test : List ℕ → Bool) (mark : ℕ) {parts : List Part} → test (mark ∷ []) ≡ false
    → Opens (λ t. test t.bytes) false (Is (Mark mark) ∷ parts)
mark_opens test mark {parts} e = opens_one (Is (Mark mark)) (λ bytes. bytes ≡ mark ∷ []) (λ tokens means. means)
    (λ t same. ap test same ∙ e)

-- ---- entries

entry_takes : (entry : Entry) → IsEntry entry → Takes entry_at entry (entry_form entry) Anything
unfolding entry_at
entry_takes entry is = takes_next _ (int_takes entry.number is.fits) (takes_next _ (text_takes entry.text) takes_value)

pub entries_take : (entries : List Entry) → All IsEntry entries → Takes (entries_from []) entries (flat_map entry_form entries)
    (Stops begins_int)
unfolding entries_from
entries_take entries are =
    takes_list begins_int _ (λ list. bind_shrinks entry_shrinks λ entry. value_keeps _) entry_form IsEntry
    (λ list entry is. takes_next _ (entry_takes entry is) takes_value) (λ entry is. int_opens entry.number is.fits) []
    entries are

semicolon_is_no_int : Opens begins_int false (Is (Mark 59) ∷ [])
unfolding begins_int has_mark has_whole whole_of_number is_number
semicolon_is_no_int =
    mark_opens (λ bytes. bytes_eq bytes (45 ∷ []) || (bytes_eq bytes (43 ∷ []) || is_whole_number (whole_of_number bytes))) 59 refl

-- ---- tables and value descriptions

pub table_takes : (row : TableRow) → IsTableRow row → Takes table_at row (form (Table row)) Anything
unfolding table_at
table_takes row is =
    takes_as (table_form row) (takes_next _ (word_takes (codes "VAL_TABLE_")) (takes_next _ (name_takes row.name)
    (takes_then _ (entries_take row.entries is.entries) (allows_stop semicolon_is_no_int)
    (takes_next _ (mark_takes 59) takes_value))))

pub values_take : (row : ValueRow) → IsValueRow row → Takes values_at row (form (Values row)) Anything
unfolding values_at
values_take row is =
    takes_as (values_form row) (takes_next _ (word_takes (codes "VAL_")) (takes_next _ (id_takes row.number is.number)
    (takes_next _ (name_takes row.signal)
    (takes_then _ (entries_take row.entries is.entries) (allows_stop semicolon_is_no_int)
    (takes_next _ (mark_takes 59) takes_value)))))

-- ---- marks that may be missing

pub mark_opens_itself : (mark : ℕ) {parts : List Part} → Opens (has_mark mark) true (Is (Mark mark) ∷ parts)
mark_opens_itself mark {parts} = opens_one (Is (Mark mark)) (λ bytes. bytes ≡ mark ∷ []) (λ tokens means. means) (is_the_mark mark)

pub perhaps_takes : (mark : ℕ) → Takes (choose (has_mark mark) (mark_at mark) (value tt)) tt (Perhaps mark ∷ [])
    (Stops (has_mark mark))
perhaps_takes mark = record {
  takes = λ tokens cut spelled may. by_mark tokens cut spelled may
      (alone (Perhaps mark) tokens spelled);
}
  where
    by_mark : (tokens : List Token) (cut : Cut) → Spelled (Perhaps mark ∷ []) tokens → Stops (has_mark mark) cut
        → SaysPart (Perhaps mark) tokens → choose (has_mark mark) (mark_at mark) (value tt) (tokens ▸▸ cut) ≡ Ok (tt, cut)
    by_mark tokens cut spelled may (inl none) =
        ap (λ (t : List Token). choose (has_mark mark) (mark_at mark) (value tt) (t ▸▸ cut)) none
        ∙ (takes_none {May = Stops (has_mark mark)} (has_mark mark) (mark_at mark) (λ cut may. may)
        (takes_where takes_value (λ cut may. tt))).takes [] cut refl may
    by_mark tokens cut spelled may (inr means) =
        (takes_first (value tt) (mark_opens_itself mark) (mark_takes mark)).takes tokens cut (
          tokens,
          [],
          sym (append-nil tokens),
          means,
          refl,
        ) tt

-- ---- float types

pub whole_is_no_mark : (mark n : ℕ) {parts : List Part} → is_number (mark ∷ []) ≡ false
    → Opens (has_mark mark) false (Is (Whole n) ∷ parts)
whole_is_no_mark mark n {parts} none = opens_one (Is (Whole n)) (λ bytes. SpellsNumber bytes n) (λ tokens means. means)
    (λ t e. number_is_no_mark mark t none e.0)

colon_is_no_number : is_number (58 ∷ []) ≡ false
unfolding is_number
colon_is_no_number = refl

colon_takes : Takes colon_at tt (Perhaps 58 ∷ []) (Stops (has_mark 58))
unfolding colon_at
colon_takes = perhaps_takes 58

pub float_takes : (row : FloatRow) → IsFloatRow row → Takes float_at row (form (Float row)) Anything
unfolding float_at
float_takes row is =
    takes_as (float_form row) (takes_next _ (word_takes (codes "SIG_VALTYPE_")) (takes_next _ (id_takes row.number is.number)
    (takes_next _ (name_takes row.signal)
    (takes_then _ colon_takes (allows_stop (whole_is_no_mark 58 row.kind colon_is_no_number))
    (takes_next _ (whole_takes 0 2 row.kind (kind_within row.kind is.fits)) (takes_next _ (mark_takes 59) takes_value))))))
  where
    kind_within : (kind : ℕ) → nat_le kind 2 ≡ true → Within 0 2 kind
    kind_within kind fits = let most : kind ≤ 2 = grind (arith, common_steps) in
        within 0 2 kind (omega arith) most (omega (arith, most))

-- ---- multiplexing

pub end_within : (n : ℕ) → n < 2 ^ 64 → Within 0 (2 ^ 64 - 1) n
end_within n small = within 0 (2 ^ 64 - 1) n (omega arith) (omega (arith, small)) small

range_takes : (range : Range) → IsRange range → Takes range_at range (range_form range) Anything
unfolding range_at
range_takes range is =
    takes_next _ (whole_takes 0 (2 ^ 64 - 1) range.first (end_within range.first is.first))
    (takes_next _ (mark_takes 45) (takes_next _ (whole_takes 0 (2 ^ 64 - 1) range.last (end_within range.last is.last))
    takes_value))

further_ranges_take : (ranges more : List Range) → All IsRange more → Takes (ranges_from ranges) (ranges ++ more)
    (flat_map further_form more) (Stops (has_mark 44))
unfolding ranges_from
further_ranges_take ranges more are =
    takes_list (has_mark 44) _ (λ list. bind_shrinks (mark_shrinks 44) λ _. bind_keeps (keeps range_shrinks) λ range. value_keeps _)
    further_form IsRange
    (λ list range is. takes_next _ (mark_takes 44) (takes_next _ (range_takes range is) takes_value))
    (λ range is. mark_opens_itself 44) ranges more are

ranges_take : (range : Range) (ranges : List Range) → All IsRange (range ∷ ranges)
    → Takes ranges_at (range ∷ ranges) (range_form range ++ flat_map further_form ranges) (Stops (has_mark 44))
unfolding ranges_at
ranges_take range ranges are = takes_next _ (range_takes range (All-head IsRange range ranges are))
    (further_ranges_take (range ∷ []) ranges (All-tail IsRange range ranges are))

pub semicolon_is_no_comma : {parts : List Part} → Opens (has_mark 44) false (Is (Mark 59) ∷ parts)
unfolding has_mark
semicolon_is_no_comma {parts} = mark_opens (λ bytes. bytes_eq bytes (44 ∷ [])) 59 refl

some_ranges : (ranges : List Range) → nat_le 1 (length ranges) ≡ true → (first : Range) × (more : List Range)
    × (ranges ≡ first ∷ more)
some_ranges [] fit = absurd cc
some_ranges (range ∷ ranges) fit = (range, ranges, refl)

mux_by : (row : MuxRow) (first : Range) (more : List Range) → row.ranges ≡ first ∷ more → IsMuxRow row
    → Takes mux_at row (form (Mux row)) Anything
unfolding mux_at
mux_by row first more same is =
    takes_as (mux_form row ∙ ap (λ (ranges : List Range). Is (Word (codes "SG_MUL_VAL_")) ∷ Is (Whole row.number)
    ∷ Is (Name row.signal) ∷ Is (Name row.switch) ∷ (first_and range_form further_form ranges ++ Is (Mark 59) ∷ [])) same)
    (takes_next _ (word_takes (codes "SG_MUL_VAL_")) (takes_next _ (id_takes row.number is.number)
    (takes_next _ (name_takes row.signal) (takes_next _ (name_takes row.switch)
    (takes_then _ (ranges_take first more (subst (All IsRange) same is.ranges)) (allows_stop semicolon_is_no_comma)
    (takes_next _ (mark_takes 59)
    (subst (λ (ranges : List Range). Takes (value (record row { ranges = ranges })) row [] Anything) same takes_value)))))))

pub mux_takes : (row : MuxRow) → IsMuxRow row → Takes mux_at row (form (Mux row)) Anything
mux_takes row is = let some = some_ranges row.ranges is.fit in mux_by row some.0 some.1 some.2 is
