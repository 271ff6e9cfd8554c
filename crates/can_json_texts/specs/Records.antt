-- The records of a database as JSON. Source: the DBC file format, the section of each statement; RFC 8259. The names of the members
-- are the profile of candesk.
use Rattle.std.specs.Prelude.{ℕ, List, [], ◌∷◌, ◌++◌, Option, Some, None, map, codes, decimal}
use Rattle.std.specs.Fmt.{signed_decimal}
use Rattle.std.specs.List.{flat_map}
use Rattle.json.specs.Json.{Json, null, number, string}
use Rattle.can_json_texts.specs.Members.{Member, object_of, text_members}
use Rattle.can_json_texts.specs.Values.{array_of, or_null}
use Rattle.dbc_values.specs.Decimals.{Decimal}
use Rattle.dbc_records.specs.Layout.{decimal_text}
use Rattle.dbc_records.specs.Records.{Entry, TableRow, ValueRow, FloatRow, MuxRow}
use Rattle.dbc_records.specs.Comments.{Comment}
use Rattle.dbc_records.specs.Attributes.{AttrDef, AttrDefault, AttrRow}
use Rattle.dbc_records.specs.Kept.{Kept}
use Rattle.dbc_records.specs.declared.mux_row.Range.{Range}
use Rattle.dbc_records.specs.declared.tag.Tag.{Tag}
use Rattle.dbc_records.specs.declared.tag.Tag.TheVariants as tags
use Rattle.dbc_records.specs.declared.target.Target.{Target}
use Rattle.dbc_records.specs.declared.target.Target.TheVariants as targets
use Rattle.dbc_records.specs.declared.attribute.AttrValue.{AttrValue}
use Rattle.dbc_records.specs.declared.attribute.AttrValue.TheVariants as values
use Rattle.dbc_records.specs.declared.definition.Limits.{Limits}
use Rattle.dbc_records.specs.declared.definition.Object.{Object}
use Rattle.dbc_records.specs.declared.definition.Object.TheVariants as objects
use Rattle.dbc_records.specs.declared.definition.Form.{Form}
use Rattle.dbc_records.specs.declared.definition.Form.TheVariants as forms

-- ---- numbers and names

abbrev pub whole_json : ℕ → Json
whole_json n = number (decimal n)

-- the exact decimal
abbrev pub decimal_json : Decimal → Json
decimal_json d = number (decimal_text d)

abbrev pub name_json : List ℕ → Json
name_json name = string name

abbrev pub names_json : List (List ℕ) → Json
names_json names = array_of (map name_json names)

-- ---- value descriptions ("Signal Value Descriptions", "Value Table Definitions")

-- `{"value":1,"name":"Enabled"}`
abbrev pub entry_json : Entry → Json
entry_json entry = object_of ((codes "value", number (signed_decimal entry.number)) ∷ text_members (codes "name") entry.text)

abbrev pub entries_json : List Entry → Json
entries_json entries = array_of (map entry_json entries)

-- `{"name":"Switch","values":[..]}`
abbrev pub table_json : TableRow → Json
table_json row = object_of ((codes "name", name_json row.name) ∷ (codes "values", entries_json row.entries) ∷ [])

-- ---- what a statement is about

-- the node, the message, or the message and the signal; nothing for the whole database
abbrev pub target_members : Target → List Member
target_members targets.Whole = []
target_members (targets.Node name) = (codes "node", name_json name) ∷ []
target_members (targets.Message n) = (codes "message", whole_json n) ∷ []
target_members (targets.Signal n name) = (codes "message", whole_json n) ∷ (codes "signal", name_json name) ∷ []

-- the message and the signal of an entry
abbrev pub signal_key_members : ℕ → List ℕ → List Member
signal_key_members n signal = (codes "message", whole_json n) ∷ (codes "signal", name_json signal) ∷ []

-- ---- comments ("Comment Definitions")

abbrev pub comment_json : Comment → Json
comment_json comment = object_of (target_members comment.target ++ text_members (codes "comment") comment.text)

-- ---- attributes ("User Defined Attribute Definitions")

abbrev pub attribute_value_members : AttrValue → List Member
attribute_value_members (values.Text text) = text_members (codes "value") text
attribute_value_members (values.Decimal d) = (codes "value", decimal_json d) ∷ []

-- `"name":"GenMsgCycleTime","value":100`
abbrev pub attribute_members : List ℕ → AttrValue → List Member
attribute_members name value = text_members (codes "name") name ++ attribute_value_members value

-- an attribute together with its owner
abbrev pub own_attribute_json : AttrRow → Json
own_attribute_json row = object_of (attribute_members row.name row.value)

-- an attribute, and its owner
abbrev pub attribute_json : AttrRow → Json
attribute_json row = object_of (target_members row.target ++ attribute_members row.name row.value)

abbrev pub default_json : AttrDefault → Json
default_json row = object_of (attribute_members row.name row.value)

abbrev pub object_word : Object → List ℕ
object_word objects.Node = codes "node"
object_word objects.Message = codes "message"
object_word objects.Signal = codes "signal"
object_word objects.EnvironmentVariable = codes "environment_variable"

abbrev pub object_json : Object → Json
object_json object = string (object_word object)

abbrev pub type_word : Form → List ℕ
type_word (forms.Int limits) = codes "INT"
type_word (forms.Hex limits) = codes "HEX"
type_word (forms.Float limits) = codes "FLOAT"
type_word forms.Str = codes "STRING"
type_word (forms.Enumeration texts) = codes "ENUM"

abbrev pub limits_members : Option Limits → List Member
limits_members None = []
limits_members (Some limits) = (codes "minimum", decimal_json limits.minimum) ∷ (codes "maximum", decimal_json limits.maximum) ∷ []

-- `{"text":"Cyclic"}`
abbrev pub text_json : List ℕ → Json
text_json text = object_of (text_members (codes "text") text)

-- the limits of a number, or the texts of an enumeration
abbrev pub form_members : Form → List Member
form_members (forms.Int limits) = limits_members limits
form_members (forms.Hex limits) = limits_members limits
form_members (forms.Float limits) = limits_members limits
form_members forms.Str = []
form_members (forms.Enumeration texts) = (codes "values", array_of (map text_json texts)) ∷ []

abbrev pub definition_json : AttrDef → Json
definition_json definition =
    object_of ((codes "object", or_null object_json definition.object)
    ∷ (text_members (codes "name") definition.name
    ++ ((codes "type", string (type_word definition.form)) ∷ form_members definition.form)))

-- ---- entries of signals

-- the multiplexer indicator as it is printed: `M`, `m5` or `m5M`; nothing for a signal without one
abbrev pub tag_json : Tag → Json
tag_json tags.Plain = null
tag_json tags.Switch = string (codes "M")
tag_json (tags.Muxed n) = string (codes "m" ++ decimal n)
tag_json (tags.Both n) = string (codes "m" ++ (decimal n ++ codes "M"))

-- `[3,5]` ("Extended Multiplexing")
abbrev pub range_json : Range → Json
range_json range = array_of (whole_json range.first ∷ whole_json range.last ∷ [])

abbrev pub ranges_json : List Range → Json
ranges_json ranges = array_of (map range_json ranges)

abbrev pub values_json : ValueRow → Json
values_json row = object_of (signal_key_members row.number row.signal ++ ((codes "values", entries_json row.entries) ∷ []))

abbrev pub float_json : FloatRow → Json
float_json row = object_of (signal_key_members row.number row.signal ++ ((codes "type", whole_json row.kind) ∷ []))

abbrev pub mux_json : MuxRow → Json
mux_json row =
    object_of (signal_key_members row.number row.signal
    ++ ((codes "switch", name_json row.switch) ∷ (codes "ranges", ranges_json row.ranges) ∷ []))

-- ---- statements kept verbatim

-- the statement as it is printed, without the end of its line
abbrev pub statement_text : List (List ℕ) → List ℕ
statement_text tokens = flat_map (λ token. token ++ codes " ") tokens ++ codes ";"

abbrev pub kept_json : Kept → Json
kept_json statement = object_of (text_members (codes "text") (statement_text statement.tokens))
