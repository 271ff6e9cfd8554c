-- The readers of entries, comments and attributes agree with their patterns.
use Rattle.std.proofs.Common.{◌^◌, ◌-◌, List, [], ◌∷◌, refl}
use Rattle.std.specs.Prelude.{codes}
use Rattle.dbc_records.specs.declared.mux_row.Range.{Range}
use Rattle.dbc_reader.specs.Classes.{has_word, has_mark, has_string}
use Rattle.dbc_reader.specs.Pattern.{Word, Mark, Name, String, Whole, Seen, Done, ◌⇒◌, Either, Repeat, ◌then◌}
use Rattle.dbc_reader.specs.Grammar as grammar
use Rattle.dbc_reader.specs.inner.Tables.{table_at, colon_at, float_at, range_at, ranges_from, ranges_at, mux_at}
use Rattle.dbc_reader.specs.inner.Attributes.{node_target_at, message_target_at, signal_target_at, target_at, object_at}
use Rattle.dbc_reader.specs.inner.Attributes.{limits_at, string_form_at, enumeration_at, form_at, definition_at, value_at}
use Rattle.dbc_reader.specs.inner.Attributes.{default_at}
use Rattle.dbc_reader.specs.inner.Parts.{begins_decimal}
use Rattle.dbc_reader.proofs.Rounds.{value_keeps, bind_shrinks, bind_keeps, keeps}
use Rattle.dbc_reader.proofs.Rounds.Lists.{mark_shrinks, range_shrinks}
use Rattle.dbc_reader.proofs.Agrees.{Agrees, Same, agree_then, agree_value, agree_choose, agree_same}
use Rattle.dbc_reader.proofs.Agrees.Kinds.{word_agrees, mark_agrees, name_agrees, text_agrees, whole_agrees, id_agrees}
use Rattle.dbc_reader.proofs.Agrees.Kinds.{decimal_agrees, entries_agree, texts_agree, begins_word, begins_mark, begins_string}
use Rattle.dbc_reader.proofs.Agrees.Kinds.{begins_a_decimal}

-- ---- tables

pub table_agrees : (seen : Seen) → Agrees seen table_at grammar.table (Same seen)
unfolding table_at
table_agrees seen =
    agree_then (word_agrees seen (codes "VAL_TABLE_")) λ _. agree_then (name_agrees seen) λ name. agree_then (entries_agree seen [])
    λ entries.
    agree_then (mark_agrees seen 59) λ _. agree_value refl

colon_agrees : (seen : Seen) → Agrees seen colon_at (Either (Mark 58 ⇒ Done) Done Done) (Same seen)
unfolding colon_at
colon_agrees seen = agree_choose (has_mark 58) (begins_mark 58 Done) (mark_agrees seen 58) (agree_value refl)

pub float_agrees : (seen : Seen) → Agrees seen float_at grammar.float (Same seen)
unfolding float_at
float_agrees seen =
    agree_then (word_agrees seen (codes "SIG_VALTYPE_")) λ _. agree_then (id_agrees seen) λ number. agree_then (name_agrees seen)
    λ signal.
    agree_then (colon_agrees seen) λ _. agree_then (whole_agrees seen 0 2) λ kind. agree_then (mark_agrees seen 59) λ _. agree_value
    refl

range_agrees : (seen : Seen) → Agrees seen range_at grammar.range (Same seen)
unfolding range_at
range_agrees seen =
    agree_then (whole_agrees seen 0 (2 ^ 64 - 1)) λ first. agree_then (mark_agrees seen 45) λ _. agree_then
    (whole_agrees seen 0 (2 ^ 64 - 1)) λ last. agree_value refl

ranges_agree : (seen : Seen) (ranges : List Range) → Agrees seen (ranges_from ranges) (Repeat (Mark 44 ⇒ grammar.range) Done)
    (Same seen)
unfolding ranges_from
ranges_agree seen ranges =
    agree_same (has_mark 44) _ (λ s. bind_shrinks (mark_shrinks 44) λ _. bind_keeps (keeps range_shrinks) λ range. value_keeps _)
    (begins_mark 44 _)
    (λ s. agree_then (mark_agrees seen 44) λ _. agree_then (range_agrees seen) λ range. agree_value refl) ranges

all_ranges_agree : (seen : Seen) → Agrees seen ranges_at (grammar.range then Repeat (Mark 44 ⇒ grammar.range) Done) (Same seen)
unfolding ranges_at
all_ranges_agree seen = agree_then (range_agrees seen) λ range. ranges_agree seen (range ∷ [])

pub mux_agrees : (seen : Seen) → Agrees seen mux_at grammar.mux (Same seen)
unfolding mux_at
mux_agrees seen =
    agree_then (word_agrees seen (codes "SG_MUL_VAL_")) λ _. agree_then (id_agrees seen) λ number. agree_then (name_agrees seen)
    λ signal. agree_then (name_agrees seen) λ switch.
    agree_then (all_ranges_agree seen) λ ranges. agree_then (mark_agrees seen 59) λ _. agree_value refl

-- ---- targets

node_target_agrees : (seen : Seen) → Agrees seen node_target_at (Word (codes "BU_") ⇒ Name ⇒ Done) (Same seen)
unfolding node_target_at
node_target_agrees seen = agree_then (word_agrees seen (codes "BU_")) λ _. agree_then (name_agrees seen) λ name. agree_value refl

pub message_target_agrees : (seen : Seen) → Agrees seen message_target_at (Word (codes "BO_") ⇒ grammar.number) (Same seen)
unfolding message_target_at
message_target_agrees seen = agree_then (word_agrees seen (codes "BO_")) λ _. agree_then (id_agrees seen) λ number. agree_value refl

signal_target_agrees : (seen : Seen) → Agrees seen signal_target_at (Word (codes "SG_") ⇒ Whole 0 (2 ^ 32 - 1) ⇒ Name ⇒ Done)
    (Same seen)
unfolding signal_target_at
signal_target_agrees seen = agree_then (word_agrees seen (codes "SG_")) λ _. agree_then (id_agrees seen) λ number. agree_then
    (name_agrees seen) λ name. agree_value refl

pub target_agrees : (seen : Seen) → Agrees seen target_at grammar.target (Same seen)
unfolding target_at
target_agrees seen =
    agree_choose (has_word (codes "BU_")) (begins_word (codes "BU_") _) (node_target_agrees seen)
    (agree_choose (has_word (codes "BO_")) (begins_word (codes "BO_") _) (message_target_agrees seen)
    (agree_choose (has_word (codes "SG_")) (begins_word (codes "SG_") _) (signal_target_agrees seen) (agree_value refl)))

-- ---- definitions

pub object_agrees : (seen : Seen) → Agrees seen object_at grammar.object (Same seen)
unfolding object_at
object_agrees seen =
    agree_choose (has_word (codes "BU_")) (begins_word (codes "BU_") _) (agree_then (word_agrees seen (codes "BU_")) λ _.
    agree_value refl)
    (agree_choose (has_word (codes "BO_")) (begins_word (codes "BO_") _) (agree_then (word_agrees seen (codes "BO_")) λ _.
    agree_value refl)
    (agree_choose (has_word (codes "SG_")) (begins_word (codes "SG_") _) (agree_then (word_agrees seen (codes "SG_")) λ _.
    agree_value refl)
    (agree_choose (has_word (codes "EV_")) (begins_word (codes "EV_") _) (agree_then (word_agrees seen (codes "EV_")) λ _.
    agree_value refl) (agree_value refl))))

limits_agree : (seen : Seen) → Agrees seen limits_at grammar.limits (Same seen)
unfolding limits_at
limits_agree seen =
    agree_choose begins_decimal (begins_a_decimal grammar.decimal) (agree_then (decimal_agrees seen) λ minimum. agree_then
    (decimal_agrees seen) λ maximum. agree_value refl) (agree_value refl)

string_form_agrees : (seen : Seen) → Agrees seen string_form_at (Word (codes "STRING") ⇒ Done) (Same seen)
unfolding string_form_at
string_form_agrees seen = agree_then (word_agrees seen (codes "STRING")) λ _. agree_value refl

enumeration_agrees : (seen : Seen) → Agrees seen enumeration_at (Word (codes "ENUM") ⇒ String ⇒ Repeat (Mark 44 ⇒ String ⇒ Done)
    Done) (Same seen)
unfolding enumeration_at
enumeration_agrees seen = agree_then (word_agrees seen (codes "ENUM")) λ _. agree_then (text_agrees seen) λ text. agree_then
    (texts_agree seen (text ∷ [])) λ texts. agree_value refl

form_agrees : (seen : Seen) → Agrees seen form_at grammar.form (Same seen)
unfolding form_at
form_agrees seen =
    agree_choose (has_word (codes "INT")) (begins_word (codes "INT") _) (agree_then (word_agrees seen (codes "INT")) λ _. agree_then
    (limits_agree seen) λ limits. agree_value refl)
    (agree_choose (has_word (codes "HEX")) (begins_word (codes "HEX") _) (agree_then (word_agrees seen (codes "HEX")) λ _.
    agree_then (limits_agree seen) λ limits. agree_value refl)
    (agree_choose (has_word (codes "FLOAT")) (begins_word (codes "FLOAT") _) (agree_then (word_agrees seen (codes "FLOAT")) λ _.
    agree_then (limits_agree seen) λ limits. agree_value refl)
    (agree_choose (has_word (codes "STRING")) (begins_word (codes "STRING") _) (string_form_agrees seen)
    (enumeration_agrees seen))))

pub definition_agrees : (seen : Seen) → Agrees seen definition_at grammar.definition (Same seen)
unfolding definition_at
definition_agrees seen =
    agree_then (word_agrees seen (codes "BA_DEF_")) λ _. agree_then (object_agrees seen) λ object. agree_then (text_agrees seen)
    λ name.
    agree_then (form_agrees seen) λ form. agree_then (mark_agrees seen 59) λ _. agree_value refl

-- ---- values

pub given_agrees : (seen : Seen) → Agrees seen value_at grammar.given (Same seen)
unfolding value_at
given_agrees seen =
    agree_choose has_string (begins_string Done) (agree_then (text_agrees seen) λ text. agree_value refl)
    (agree_then (decimal_agrees seen) λ number. agree_value refl)

pub default_agrees : (seen : Seen) → Agrees seen default_at grammar.default (Same seen)
unfolding default_at
default_agrees seen =
    agree_then (word_agrees seen (codes "BA_DEF_DEF_")) λ _. agree_then (text_agrees seen) λ name. agree_then (given_agrees seen)
    λ given.
    agree_then (mark_agrees seen 59) λ _. agree_value refl
