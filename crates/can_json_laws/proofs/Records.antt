-- The records of a database read back.
use Rattle.std.proofs.Common.{◌≡◌, ℕ, zero, suc, ◌≤◌, ◌<◌, ◌^◌, List, [], ◌∷◌, ◌++◌, Option, Some, None, map, All, refl, arith}
use Rattle.std.proofs.Common.{IsTrue, codes, decimal}
use Rattle.std.specs.Prelude.{nat_le}
use Rattle.std.specs.Option.{IfSome}
use Rattle.std.proofs.lemmas.Bool.{leb-true}
use Rattle.std.specs.Fmt.{signed_decimal}
use Rattle.json.specs.Json.{Json, string, number}
use Rattle.can_json_texts.specs.Members.{Member, text_members}
use Rattle.can_json_texts.specs.Records.{whole_json, decimal_json, name_json, entry_json, entries_json, table_json}
use Rattle.can_json_texts.specs.Records.{target_members}
use Rattle.can_json_texts.specs.Records.{signal_key_members, comment_json, attribute_value_members, attribute_members}
use Rattle.can_json_texts.specs.Records.{own_attribute_json, attribute_json, default_json, object_json, type_word, limits_members}
use Rattle.can_json_texts.specs.Records.{text_json, form_members, definition_json, range_json, ranges_json, values_json}
use Rattle.can_json_texts.specs.Records.{float_json}
use Rattle.can_json_texts.specs.Records.{mux_json, statement_text, kept_json, tag_json, object_word}
use Rattle.can_json_texts.specs.Values.{or_null}
use Rattle.dbc_records.specs.Layout.{decimal_text}
use Rattle.can_json_texts.proofs.Numbers.{decimal_is_number, entry_is_number}
use Rattle.dbc_values.specs.Decimals.{Decimal, IsDecimal}
use Rattle.dbc_values.specs.Names.{IsText}
use Rattle.dbc_records.specs.Records.{Entry, IsEntry, TableRow, IsTableRow, ValueRow, IsValueRow, FloatRow, IsFloatRow}
use Rattle.dbc_records.specs.Records.{float_fits, MuxRow}
use Rattle.dbc_records.specs.Records.{IsMuxRow, IsRange, IsTag, IsNumber}
use Rattle.dbc_records.specs.Comments.{Comment, IsComment, IsTarget}
use Rattle.dbc_records.specs.Attributes.{AttrDef, IsAttrDef, AttrDefault, IsAttrDefault, AttrRow, IsAttrRow, IsAttrValue}
use Rattle.dbc_records.specs.Attributes.{IsForm, IsLimits}
use Rattle.dbc_records.specs.Kept.{Kept}
use Rattle.dbc_records.specs.declared.mux_row.Range.{Range}
use Rattle.dbc_records.specs.declared.tag.Tag.{Tag}
use Rattle.dbc_records.specs.declared.tag.Tag.TheVariants as tags
use Rattle.dbc_records.specs.declared.target.Target.{Target}
use Rattle.dbc_records.specs.declared.target.Target.TheVariants as targets
use Rattle.dbc_records.specs.declared.attribute.AttrValue.{AttrValue}
use Rattle.dbc_records.specs.declared.attribute.AttrValue.TheVariants as values
use Rattle.dbc_records.specs.declared.definition.Limits.{Limits}
use Rattle.dbc_records.specs.declared.definition.Object.{Object}
use Rattle.dbc_records.specs.declared.definition.Form.{Form}
use Rattle.dbc_records.specs.declared.definition.Form.TheVariants as forms
use Rattle.can_json_laws.proofs.Written.{Reads, MembersRead, deeper, string_reads, null_reads, number_reads, whole_reads}
use Rattle.can_json_laws.proofs.Written.{or_null_reads}
use Rattle.can_json_laws.proofs.Written.{both_read, object_reads, array_reads, list_reads, texts_read}

pub decimal_reads : (levels : ℕ) (d : Decimal) → IsDecimal d → Reads levels (decimal_json d)
decimal_reads levels d is = number_reads levels (decimal_text d) (decimal_is_number d is)

-- the CAN identifier of a message
pub number_small : (n : ℕ) → IsNumber n → n < 10 ^ 64
number_small n is = omega (arith, is)

-- ---- value descriptions

pub entry_reads : (entry : Entry) → IsEntry entry → Reads 1 (entry_json entry)
entry_reads entry is =
    object_reads 0 ((codes "value", number (signed_decimal entry.number)) ∷ text_members (codes "name") entry.text)
    (number_reads 0 (signed_decimal entry.number) (entry_is_number entry.number is.fits), texts_read 0 (codes "name") entry.text)

pub entries_read : (entries : List Entry) → All IsEntry entries → Reads 2 (entries_json entries)
entries_read entries are = list_reads IsEntry entry_json 1 entry_reads entries are

pub table_reads : (row : TableRow) → IsTableRow row → Reads 3 (table_json row)
table_reads row is =
    object_reads 2 ((codes "name", name_json row.name) ∷ (codes "values", entries_json row.entries) ∷ [])
    (string_reads 2 row.name, (entries_read row.entries is.entries, tt))

-- ---- comments and attributes

target_read : (levels : ℕ) (target : Target) → IsTarget target → MembersRead levels (target_members target)
target_read levels targets.Whole is = tt
target_read levels (targets.Node name) is = (string_reads levels name, tt)
target_read levels (targets.Message n) is = (whole_reads levels n (number_small n is), tt)
target_read levels (targets.Signal n name) is = (whole_reads levels n (number_small n is.0), (string_reads levels name, tt))

pub comment_reads : (comment : Comment) → IsComment comment → Reads 1 (comment_json comment)
comment_reads comment is =
    object_reads 0 (target_members comment.target ++ text_members (codes "comment") comment.text)
    (both_read 0 (target_members comment.target) (text_members (codes "comment") comment.text)
    (target_read 0 comment.target is.target) (texts_read 0 (codes "comment") comment.text))

value_read : (levels : ℕ) (value : AttrValue) → IsAttrValue value → MembersRead levels (attribute_value_members value)
value_read levels (values.Text text) is = texts_read levels (codes "value") text
value_read levels (values.Decimal d) is = (decimal_reads levels d is, tt)

attribute_read : (name : List ℕ) (value : AttrValue) → IsAttrValue value → MembersRead 0 (attribute_members name value)
attribute_read name value is =
    both_read 0 (text_members (codes "name") name) (attribute_value_members value) (texts_read 0 (codes "name") name)
    (value_read 0 value is)

pub own_attribute_reads : (row : AttrRow) → IsAttrRow row → Reads 1 (own_attribute_json row)
own_attribute_reads row is = object_reads 0 (attribute_members row.name row.value) (attribute_read row.name row.value is.value)

pub attribute_reads : (row : AttrRow) → IsAttrRow row → Reads 1 (attribute_json row)
attribute_reads row is =
    object_reads 0 (target_members row.target ++ attribute_members row.name row.value)
    (both_read 0 (target_members row.target) (attribute_members row.name row.value)
    (target_read 0 row.target is.target) (attribute_read row.name row.value is.value))

pub default_reads : (row : AttrDefault) → IsAttrDefault row → Reads 1 (default_json row)
default_reads row is = object_reads 0 (attribute_members row.name row.value) (attribute_read row.name row.value is.value)

limits_read : (levels : ℕ) (limits : Option Limits) → IfSome limits IsLimits → MembersRead levels (limits_members limits)
limits_read levels None is = tt
limits_read levels (Some limits) is =
    (decimal_reads levels limits.minimum is.minimum, (decimal_reads levels limits.maximum is.maximum, tt))

text_reads : (text : List ℕ) → IsText text → Reads 1 (text_json text)
text_reads text is = object_reads 0 (text_members (codes "text") text) (texts_read 0 (codes "text") text)

form_read : (form : Form) → IsForm form → MembersRead 2 (form_members form)
form_read (forms.Int limits) is = limits_read 2 limits is
form_read (forms.Hex limits) is = limits_read 2 limits is
form_read (forms.Float limits) is = limits_read 2 limits is
form_read forms.Str is = tt
form_read (forms.Enumeration texts) is = (list_reads IsText text_json 1 text_reads texts is, tt)

object_word_reads : (levels : ℕ) (object : Option Object) → IfSome object (λ object. Reads levels (object_json object))
object_word_reads levels None = tt
object_word_reads levels (Some object) = string_reads levels (object_word object)

pub definition_reads : (definition : AttrDef) → IsAttrDef definition → Reads 3 (definition_json definition)
definition_reads definition is =
    let name = text_members (codes "name") definition.name in
    let form : List Member = (codes "type", string (type_word definition.form)) ∷ form_members definition.form in
    let object = or_null_reads object_json 2 definition.object (object_word_reads 2 definition.object) in
    let formed : MembersRead 2 form = (string_reads 2 (type_word definition.form), form_read definition.form is.form) in
    object_reads 2 ((codes "object", or_null object_json definition.object) ∷ (name ++ form))
    (object, both_read 2 name form (texts_read 2 (codes "name") definition.name) formed)

-- ---- entries of signals

pub range_reads : (range : Range) → IsRange range → Reads 1 (range_json range)
range_reads range is =
    let first = whole_reads 0 range.first (omega (arith, is.first)) in
    let last = whole_reads 0 range.last (omega (arith, is.last)) in
    array_reads 0 (whole_json range.first ∷ whole_json range.last ∷ []) (first, (last, tt))

pub ranges_read : (ranges : List Range) → All IsRange ranges → Reads 2 (ranges_json ranges)
ranges_read ranges are = list_reads IsRange range_json 1 range_reads ranges are

key_read : (levels n : ℕ) (signal : List ℕ) → IsNumber n → MembersRead levels (signal_key_members n signal)
key_read levels n signal is = (whole_reads levels n (number_small n is), (string_reads levels signal, tt))

pub values_read : (row : ValueRow) → IsValueRow row → Reads 3 (values_json row)
values_read row is =
    object_reads 2 (signal_key_members row.number row.signal ++ ((codes "values", entries_json row.entries) ∷ []))
    (both_read 2 (signal_key_members row.number row.signal) ((codes "values", entries_json row.entries) ∷ [])
    (key_read 2 row.number row.signal is.number) (entries_read row.entries is.entries, tt))

kind_small : (kind : ℕ) → IsTrue (float_fits kind) → kind < 10 ^ 64
kind_small kind fits = omega (arith, leb-true kind 2 fits)

pub float_reads : (row : FloatRow) → IsFloatRow row → Reads 1 (float_json row)
float_reads row is =
    object_reads 0 (signal_key_members row.number row.signal ++ ((codes "type", whole_json row.kind) ∷ []))
    (both_read 0 (signal_key_members row.number row.signal) ((codes "type", whole_json row.kind) ∷ [])
    (key_read 0 row.number row.signal is.number) (whole_reads 0 row.kind (kind_small row.kind is.fits), tt))

pub mux_reads : (row : MuxRow) → IsMuxRow row → Reads 3 (mux_json row)
mux_reads row is =
    object_reads 2 (signal_key_members row.number row.signal
    ++ ((codes "switch", name_json row.switch) ∷ (codes "ranges", ranges_json row.ranges) ∷ []))
    (both_read 2 (signal_key_members row.number row.signal)
    ((codes "switch", name_json row.switch) ∷ (codes "ranges", ranges_json row.ranges) ∷ [])
    (key_read 2 row.number row.signal is.number) (string_reads 2 row.switch, (ranges_read row.ranges is.ranges, tt)))

pub kept_reads : (statement : Kept) → Reads 1 (kept_json statement)
kept_reads statement =
    let text = statement_text statement.tokens in
    object_reads 0 (text_members (codes "text") text) (texts_read 0 (codes "text") text)

pub tag_reads : (levels : ℕ) (tag : Tag) → Reads levels (tag_json tag)
tag_reads levels tags.Plain = null_reads levels
tag_reads levels tags.Switch = string_reads levels (codes "M")
tag_reads levels (tags.Muxed n) = string_reads levels (codes "m" ++ decimal n)
tag_reads levels (tags.Both n) = string_reads levels (codes "m" ++ (decimal n ++ codes "M"))
