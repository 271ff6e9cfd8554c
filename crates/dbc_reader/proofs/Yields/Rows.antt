-- What the readers of entries, comments, attributes and statements kept verbatim read is proper.
use Rattle.std.proofs.Common.{◌≡◌, ℕ, ◌^◌, ◌-◌, true, [], ◌∷◌, All, length, IfSome, Ok, refl, subst}
use Rattle.std.specs.Prelude.{codes, nat_le, IsTrue}
use Rattle.std.proofs.lemmas.List.Elements.{All-nil, All-push}
use Rattle.dbc_records.specs.Records.{IsTableRow, IsValueRow, IsFloatRow, IsRange, IsMuxRow}
use Rattle.dbc_records.specs.declared.mux_row.Range.{Range}
use Rattle.dbc_records.specs.Comments.{IsTarget, IsComment}
use Rattle.dbc_records.specs.Attributes.{IsLimits, IsForm, form_fits, IsAttrDef, IsAttrValue, IsAttrDefault, IsAttrRow}
use Rattle.dbc_records.specs.declared.definition.Form.{Form}
use Rattle.dbc_records.specs.declared.target.Target.{Target}
use Rattle.dbc_records.specs.declared.target.Target.TheVariants as targets
use Rattle.dbc_records.specs.Kept.{Kept, IsKept}
use Rattle.dbc_tokens.specs.Tokens.{Cut}
use Rattle.dbc_reader.specs.inner.Parts.{word_at, mark_at, pieces_from}
use Rattle.dbc_reader.specs.inner.Tables.{table_at, values_at, colon_at, float_at, range_at, ranges_from, ranges_at, mux_at}
use Rattle.dbc_reader.specs.inner.Attributes.{node_target_at, message_target_at, signal_target_at, target_at, comment_at}
use Rattle.dbc_reader.specs.inner.Attributes.{object_at, limits_at, string_form_at, enumeration_at, form_at, definition_at}
use Rattle.dbc_reader.specs.inner.Attributes.{value_at, default_at, attribute_at}
use Rattle.dbc_reader.specs.inner.Databases.{begins_kept, kept_at, message_attribute_at}
use Rattle.dbc_reader.specs.Spelling.{IsMessageAttribute}
use Rattle.dbc_reader.proofs.Rounds.{and_then_ok, ok_is}
use Rattle.dbc_reader.proofs.Rounds.Lists.{some_ranges}
use Rattle.dbc_reader.proofs.Facts.KeptBeginnings.{pieces_fit}
use Rattle.dbc_reader.proofs.Yields.{Yields, YieldsWhere, Both, yields_both, yields_then, yields_after, yields_value, yields_choose}
use Rattle.dbc_reader.proofs.Yields.{yields_repeated, yields_more}
use Rattle.dbc_reader.proofs.Yields.Kinds.{below_64, name_proper, text_proper, whole_proper, id_proper, decimal_proper}
use Rattle.dbc_reader.proofs.Yields.Kinds.{texts_proper, entries_proper, pieces_proper}

-- ---- entries of values

pub table_proper : Yields table_at (λ row. IsTableRow row)
unfolding table_at
table_proper =
    yields_after (word_at (codes "VAL_TABLE_")) λ _. yields_then name_proper λ name is_name. yields_then entries_proper λ entries
    are_entries. yields_after (mark_at 59) λ _.
    yields_value (record { name = is_name; entries = are_entries })

pub values_proper : Yields values_at (λ row. IsValueRow row)
unfolding values_at
values_proper =
    yields_after (word_at (codes "VAL_")) λ _. yields_then id_proper λ number is_number. yields_then name_proper λ signal is_name.
    yields_then entries_proper λ entries are_entries.
    yields_after (mark_at 59) λ _. yields_value (record { number = is_number; signal = is_name; entries = are_entries })

pub float_proper : Yields float_at (λ row. IsFloatRow row)
unfolding float_at
float_proper =
    yields_after (word_at (codes "SIG_VALTYPE_")) λ _. yields_then id_proper λ number is_number. yields_then name_proper λ signal
    is_name. yields_after colon_at λ _.
    yields_then (whole_proper 0 2) λ kind is_kind. yields_after (mark_at 59) λ _. yields_value (record {
      number = is_number;
      signal = is_name;
      fits = is_kind.high;
    })

range_proper : Yields range_at (λ range. IsRange range)
unfolding range_at
range_proper =
    yields_then (whole_proper 0 (2 ^ 64 - 1)) λ first is_first. yields_after (mark_at 45) λ _. yields_then
    (whole_proper 0 (2 ^ 64 - 1)) λ last is_last.
    yields_value (record { first = below_64 first is_first; last = below_64 last is_last })

further_ranges : (first : Range) → IsRange first
    → Yields (ranges_from (first ∷ [])) (Both (All IsRange) (λ ranges. IsTrue (nat_le 1 (length ranges))))
unfolding ranges_from
further_ranges first is =
    yields_both (yields_repeated (All IsRange) _ _ (λ ranges all. yields_after (mark_at 44) λ _. yields_more range_proper ranges
    all) (first ∷ []) (All-push IsRange [] first (All-nil IsRange) is))
    (record { holds = λ cut x e. some_ranges first x.0 cut x.1 e })

ranges_proper : Yields ranges_at (Both (All IsRange) (λ ranges. IsTrue (nat_le 1 (length ranges))))
unfolding ranges_at
ranges_proper = yields_then range_proper λ range is. further_ranges range is

pub mux_proper : Yields mux_at (λ row. IsMuxRow row)
unfolding mux_at
mux_proper =
    yields_after (word_at (codes "SG_MUL_VAL_")) λ _. yields_then id_proper λ number is_number. yields_then name_proper λ signal
    is_name. yields_then name_proper λ switch is_switch.
    yields_then ranges_proper λ ranges are_ranges. yields_after (mark_at 59) λ _.
    yields_value (record {
      number = is_number;
      signal = is_name;
      switch = is_switch;
      ranges = are_ranges.first;
      fit = are_ranges.second;
    })

-- ---- comments

target_proper : Yields target_at IsTarget
unfolding target_at node_target_at message_target_at signal_target_at
target_proper =
    yields_choose _ (yields_after (word_at (codes "BU_")) λ _. yields_then name_proper λ name is_name. yields_value is_name)
    (yields_choose _ (yields_after (word_at (codes "BO_")) λ _. yields_then id_proper λ number is_number. yields_value is_number)
    (yields_choose _ (yields_after (word_at (codes "SG_")) λ _. yields_then id_proper λ number is_number. yields_then name_proper
    λ name is_name. yields_value (is_number, is_name)) (yields_value tt)))

pub comment_proper : Yields comment_at (λ comment. IsComment comment)
unfolding comment_at
comment_proper =
    yields_after (word_at (codes "CM_")) λ _. yields_then target_proper λ target is_target. yields_then text_proper λ text is_text.
    yields_after (mark_at 59) λ _.
    yields_value (record { target = is_target; text = is_text })

-- ---- definitions

limits_proper : Yields limits_at (λ limits. IfSome limits IsLimits)
unfolding limits_at
limits_proper =
    yields_choose _ (yields_then decimal_proper λ minimum is_minimum. yields_then decimal_proper λ maximum is_maximum. yields_value
    (record { minimum = is_minimum; maximum = is_maximum })) (yields_value tt)

record IsProperForm (form : Form) : Type 0 where
  proper : IsForm form
  fits : IsTrue (form_fits form)

form_proper : Yields form_at (λ form. IsProperForm form)
unfolding form_at string_form_at enumeration_at
form_proper =
    yields_choose _ (yields_after (word_at (codes "INT")) λ _. yields_then limits_proper λ limits are. yields_value
    (record { proper = are; fits = refl }))
    (yields_choose _ (yields_after (word_at (codes "HEX")) λ _. yields_then limits_proper λ limits are. yields_value
    (record { proper = are; fits = refl }))
    (yields_choose _ (yields_after (word_at (codes "FLOAT")) λ _. yields_then limits_proper λ limits are. yields_value
    (record { proper = are; fits = refl }))
    (yields_choose _ (yields_after (word_at (codes "STRING")) λ _. yields_value (record { proper = tt; fits = refl }))
    (yields_after (word_at (codes "ENUM")) λ _. yields_then text_proper λ text is_text. yields_then (texts_proper text is_text)
    λ texts are_texts.
    yields_value (record { proper = are_texts.first; fits = are_texts.second })))))

pub definition_proper : Yields definition_at (λ definition. IsAttrDef definition)
unfolding definition_at
definition_proper =
    yields_after (word_at (codes "BA_DEF_")) λ _. yields_after object_at λ object. yields_then text_proper λ name is_text.
    yields_then form_proper λ form is_form. yields_after (mark_at 59) λ _.
    yields_value (record { name = is_text; form = is_form.proper; fits = is_form.fits })

-- ---- values of attributes

given_proper : Yields value_at IsAttrValue
unfolding value_at
given_proper = yields_choose _ (yields_then text_proper λ text is_text. yields_value is_text) (yields_then decimal_proper λ number
    is_decimal. yields_value is_decimal)

pub default_proper : Yields default_at (λ row. IsAttrDefault row)
unfolding default_at
default_proper =
    yields_after (word_at (codes "BA_DEF_DEF_")) λ _. yields_then text_proper λ name is_text. yields_then given_proper λ given
    is_given. yields_after (mark_at 59) λ _.
    yields_value (record { name = is_text; value = is_given })

pub attribute_proper : Yields attribute_at (λ row. IsAttrRow row)
unfolding attribute_at
attribute_proper =
    yields_after (word_at (codes "BA_")) λ _. yields_then text_proper λ name is_text. yields_then target_proper λ target is_target.
    yields_then given_proper λ given is_given. yields_after (mark_at 59) λ _.
    yields_value (record { name = is_text; target = is_target; value = is_given })

record IsMessageTarget (target : Target) : Type 0 where
  number : ℕ
  same : target ≡ targets.Message number
  proper : IsTarget target

message_target_proper : Yields message_target_at (λ target. IsMessageTarget target)
unfolding message_target_at
message_target_proper = yields_after (word_at (codes "BO_")) λ _. yields_then id_proper λ number is_number. yields_value
    (record { number = number; same = refl; proper = is_number })

pub message_attribute_proper : Yields message_attribute_at (λ row. IsMessageAttribute row)
unfolding message_attribute_at
message_attribute_proper =
    yields_after (word_at (codes "BA_")) λ _. yields_then text_proper λ name is_text. yields_then message_target_proper λ target
    is_target. yields_then given_proper λ given is_given.
    yields_after (mark_at 59) λ _. yields_value (record {
      number = is_target.number;
      target = is_target.same;
      proper = record { name = is_text; target = is_target.proper; value = is_given };
    })

-- ---- statements kept verbatim

kept_holds : (cut : Cut) (x : Kept × Cut) → begins_kept cut ≡ true → kept_at cut ≡ Ok x → IsKept x.0
unfolding kept_at
kept_holds cut x begins e =
    let y = and_then_ok (pieces_from [] cut) _ x e in
    let z = and_then_ok (mark_at 59 y.0.1) _ x y.2 in
    subst (λ (w : Kept × Cut). IsKept w.0) (ok_is (record { tokens = y.0.0 }, z.0.1) x z.2)
    (record { tokens = pieces_proper.holds cut y.0 y.1; fit = pieces_fit y.0.0 cut y.0.1 begins y.1 })

pub kept_proper : YieldsWhere begins_kept kept_at (λ statement. IsKept statement)
kept_proper = record { holds = kept_holds }
