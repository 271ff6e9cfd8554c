-- The canonical text of a database: the layout of each kind of statement, and the order of the kinds. Source: the DBC file format,
-- the section of each statement. Where the format leaves blanks free, they are the usual ones: one space between parts, none before
-- a statement's last semicolon but after entries and kept tokens.
use Rattle.std.specs.Prelude.{ℕ, Bool, List, [], ◌∷◌, ◌++◌, Option, Some, None, codes, if◌then◌else◌}
use Rattle.std.specs.List.{flat_map}
use Rattle.dbc_values.specs.Lexical.{opening_parenthesis, closing_parenthesis, plus, comma, minus, colon, semicolon, at_sign}
use Rattle.dbc_values.specs.Lexical.{opening_bracket, closing_bracket, bar}
use Rattle.dbc_values.specs.Decimals.{Decimal}
use Rattle.dbc_records.specs.Layout.{Word, Mark, Name, Symbol, Text, Whole, Int, Number, Switch, Muxed, Both, Order, Piece, Space}
use Rattle.dbc_records.specs.Layout.{Tab, LineEnd, Is, Layout, layout_text, separated}
use Rattle.dbc_records.specs.Records.{Head, Signal, Message, Entry, TableRow, ValueRow, FloatRow, MuxRow}
use Rattle.dbc_records.specs.Comments.{Comment}
use Rattle.dbc_records.specs.Attributes.{AttrDef, AttrDefault, AttrRow}
use Rattle.dbc_records.specs.Kept.{Kept}
use Rattle.dbc_records.specs.Databases.{Database}
use Rattle.dbc_records.specs.declared.tag.Tag.{Tag}
use Rattle.dbc_records.specs.declared.tag.Tag.TheVariants as tags
use Rattle.dbc_records.specs.declared.mux_row.Range.{Range}
use Rattle.dbc_records.specs.declared.target.Target.{Target}
use Rattle.dbc_records.specs.declared.target.Target.TheVariants as targets
use Rattle.dbc_records.specs.declared.attribute.AttrValue.{AttrValue}
use Rattle.dbc_records.specs.declared.attribute.AttrValue.TheVariants as values
use Rattle.dbc_records.specs.declared.definition.Limits.{Limits}
use Rattle.dbc_records.specs.declared.definition.Object.{Object}
use Rattle.dbc_records.specs.declared.definition.Object.TheVariants as objects
use Rattle.dbc_records.specs.declared.definition.Form.{Form}
use Rattle.dbc_records.specs.declared.definition.Form.TheVariants as forms

-- ---- parts

unfoldable pub blank : Layout
blank = Space ∷ []

unfoldable pub mark_layout : ℕ → Layout
mark_layout mark = Is (Mark mark) ∷ []

unfoldable pub spaced_mark : ℕ → Layout
spaced_mark mark = Space ∷ Is (Mark mark) ∷ []

unfoldable pub number_layout : Decimal → Layout
number_layout number = Is (Number number) ∷ []

unfoldable pub spaced_number : Decimal → Layout
spaced_number number = blank ++ number_layout number

unfoldable pub spaced_text : List ℕ → Layout
spaced_text text = Space ∷ Is (Text text) ∷ []

unfoldable pub spaced_name : List ℕ → Layout
spaced_name name = Space ∷ Is (Name name) ∷ []

unfoldable pub spaced_word : List ℕ → Layout
spaced_word word = Space ∷ Is (Word word) ∷ []

unfoldable pub word_layout : List ℕ → Layout
word_layout word = Is (Word word) ∷ []

-- ` id s`: the key of a signal's entry
unfoldable pub signal_key : ℕ → List ℕ → Layout
signal_key number name = Space ∷ Is (Whole number) ∷ Space ∷ Is (Name name) ∷ []

unfoldable pub line_end : Layout
line_end = LineEnd ∷ []

-- the end of a statement
unfoldable pub statement_end : Layout
statement_end = Is (Mark semicolon) ∷ LineEnd ∷ []

-- the end of a statement after entries
unfoldable pub spaced_end : Layout
spaced_end = Space ∷ Is (Mark semicolon) ∷ LineEnd ∷ []

-- ---- version, symbols, bit timing, nodes

-- `VERSION "t"`
unfoldable pub version_layout : List ℕ → Layout
version_layout version = Is (Word (codes "VERSION")) ∷ Space ∷ Is (Text version) ∷ LineEnd ∷ []

-- a symbol, on a line of its own
unfoldable pub symbol_layout : List ℕ → Layout
symbol_layout word = Tab ∷ Is (Symbol word) ∷ LineEnd ∷ []

unfoldable pub symbols_title : Layout
symbols_title = Is (Word (codes "NS_")) ∷ Space ∷ Is (Mark colon) ∷ LineEnd ∷ []

-- `NS_ :`
unfoldable pub symbols_layout : List (List ℕ) → Layout
symbols_layout symbols = symbols_title ++ flat_map symbol_layout symbols

-- ` a : b , c`
unfoldable pub timing_numbers : List Decimal → Layout
timing_numbers (a ∷ b ∷ c ∷ []) =
    spaced_number a ++ (spaced_mark colon ++ (spaced_number b ++ (spaced_mark comma ++ spaced_number c)))
timing_numbers numbers = []

unfoldable pub perhaps_numbers : Option (List Decimal) → Layout
perhaps_numbers None = []
perhaps_numbers (Some numbers) = timing_numbers numbers

unfoldable pub timing_title : Layout
timing_title = Is (Word (codes "BS_")) ∷ Is (Mark colon) ∷ []

-- `BS_:`, or `BS_: a : b , c`
unfoldable pub timing_layout : Option (List Decimal) → Layout
timing_layout timing = timing_title ++ (perhaps_numbers timing ++ line_end)

unfoldable pub nodes_title : Layout
nodes_title = Is (Word (codes "BU_")) ∷ Is (Mark colon) ∷ []

-- `BU_: n n`
unfoldable pub nodes_layout : List (List ℕ) → Layout
nodes_layout nodes = nodes_title ++ (flat_map spaced_name nodes ++ line_end)

-- ---- tables and value descriptions

-- ` n "t"`
unfoldable pub entry_layout : Entry → Layout
entry_layout entry = Space ∷ Is (Int entry.number) ∷ Space ∷ Is (Text entry.text) ∷ []

-- `VAL_TABLE_ T`: the entry up to its key
unfoldable pub table_key : TableRow → Layout
table_key row = word_layout (codes "VAL_TABLE_") ++ spaced_name row.name

-- `VAL_TABLE_ T n "t" ;`
unfoldable pub table_layout : TableRow → Layout
table_layout row = table_key row ++ (flat_map entry_layout row.entries ++ spaced_end)

-- `VAL_ id s`
unfoldable pub values_key : ValueRow → Layout
values_key row = word_layout (codes "VAL_") ++ signal_key row.number row.signal

-- `VAL_ id s n "t" ;`
unfoldable pub values_layout : ValueRow → Layout
values_layout row = values_key row ++ (flat_map entry_layout row.entries ++ spaced_end)

-- ---- messages and signals

-- `BO_ number name: size sender`
unfoldable pub head_layout : Head → Layout
head_layout head =
    Is (Word (codes "BO_")) ∷ Space ∷ Is (Whole head.number) ∷ Space ∷ Is (Name head.name) ∷ Is (Mark colon) ∷ Space
    ∷ Is (Whole head.size) ∷ Space ∷ Is (Name head.sender) ∷ LineEnd ∷ []

-- ` SG_ name`
unfoldable pub signal_name_layout : Signal → Layout
signal_name_layout signal = Space ∷ Is (Word (codes "SG_")) ∷ Space ∷ Is (Name signal.name) ∷ []

-- the multiplexer indicator between blanks, if there is one; the blank after it is the one before the colon
unfoldable pub tag_layout : Tag → Layout
tag_layout tags.Plain = []
tag_layout tags.Switch = Space ∷ Is Switch ∷ []
tag_layout (tags.Muxed n) = Space ∷ Is (Muxed n) ∷ []
tag_layout (tags.Both n) = Space ∷ Is (Both n) ∷ []

-- `+` for unsigned and `-` for signed
abbrev pub sign_mark : Bool → ℕ
sign_mark signed = if signed then minus else plus

-- ` : start|length@order` and the sign
unfoldable pub bit_field_layout : Signal → Layout
bit_field_layout signal =
    Space ∷ Is (Mark colon) ∷ Space ∷ Is (Whole signal.start) ∷ Is (Mark bar) ∷ Is (Whole signal.length) ∷ Is (Mark at_sign)
    ∷ Is (Order signal.intel) ∷ Is (Mark (sign_mark signal.signed)) ∷ []

-- two numbers, with a mark before, between and after them
unfoldable pub pair_layout : ℕ → Decimal → ℕ → Decimal → ℕ → Layout
pair_layout opening first between second closing =
    spaced_mark opening ++ (number_layout first ++ (mark_layout between ++ (number_layout second ++ mark_layout closing)))

-- ` (factor,offset)`
unfoldable pub scale_layout : Signal → Layout
scale_layout signal = pair_layout opening_parenthesis signal.factor comma signal.offset closing_parenthesis

-- ` [min|max]`
unfoldable pub limits_layout : Signal → Layout
limits_layout signal = pair_layout opening_bracket signal.minimum bar signal.maximum closing_bracket

unfoldable pub further_receiver : List ℕ → Layout
further_receiver name = Is (Mark comma) ∷ Is (Name name) ∷ []

-- ` n,n,n`, or nothing
unfoldable pub receivers_layout : List (List ℕ) → Layout
receivers_layout names = separated spaced_name further_receiver names

-- ` SG_ name tag : start|length@order` sign ` (factor,offset) [min|max] "unit" receivers`
unfoldable pub signal_layout : Signal → Layout
signal_layout signal =
    signal_name_layout signal
    ++ (tag_layout signal.tag
    ++ (bit_field_layout signal
    ++ (scale_layout signal
    ++ (limits_layout signal
    ++ (spaced_text signal.unit
    ++ (receivers_layout signal.receivers ++ line_end))))))

unfoldable pub message_layout : Message → Layout
message_layout message = head_layout message.head ++ flat_map signal_layout message.signals

-- ---- comments and attributes

-- ` BU_ n`, ` BO_ id`, ` SG_ id s`, or nothing for the whole database
unfoldable pub target_layout : Target → Layout
target_layout targets.Whole = []
target_layout (targets.Node name) = Space ∷ Is (Word (codes "BU_")) ∷ Space ∷ Is (Name name) ∷ []
target_layout (targets.Message number) = Space ∷ Is (Word (codes "BO_")) ∷ Space ∷ Is (Whole number) ∷ []
target_layout (targets.Signal number name) = Space ∷ Is (Word (codes "SG_")) ∷ Space ∷ Is (Whole number) ∷ Space ∷ Is (Name name)
    ∷ []

-- `CM_`, `CM_ BU_ n`, ..
unfoldable pub comment_key : Comment → Layout
comment_key comment = word_layout (codes "CM_") ++ target_layout comment.target

-- `CM_ "t";`, `CM_ BU_ n "t";`, ..
unfoldable pub comment_layout : Comment → Layout
comment_layout comment = comment_key comment ++ (spaced_text comment.text ++ statement_end)

abbrev pub object_word : Object → List ℕ
object_word objects.Node = codes "BU_"
object_word objects.Message = codes "BO_"
object_word objects.Signal = codes "SG_"
object_word objects.EnvironmentVariable = codes "EV_"

unfoldable pub object_layout : Option Object → Layout
object_layout None = []
object_layout (Some object) = spaced_word (object_word object)

-- ` a b`, or nothing
unfoldable pub number_limits_layout : Option Limits → Layout
number_limits_layout None = []
number_limits_layout (Some limits) = spaced_number limits.minimum ++ spaced_number limits.maximum

unfoldable pub further_text : List ℕ → Layout
further_text text = Is (Mark comma) ∷ Is (Text text) ∷ []

-- ` "a","b"`
unfoldable pub texts_layout : List (List ℕ) → Layout
texts_layout texts = separated spaced_text further_text texts

-- ` INT a b`, ` HEX`, ` STRING`, ` ENUM "a","b"`, ..
unfoldable pub form_layout : Form → Layout
form_layout (forms.Int limits) = spaced_word (codes "INT") ++ number_limits_layout limits
form_layout (forms.Hex limits) = spaced_word (codes "HEX") ++ number_limits_layout limits
form_layout (forms.Float limits) = spaced_word (codes "FLOAT") ++ number_limits_layout limits
form_layout forms.Str = spaced_word (codes "STRING")
form_layout (forms.Enumeration texts) = spaced_word (codes "ENUM") ++ texts_layout texts

-- `BA_DEF_ BO_ "n"`
unfoldable pub definition_key : AttrDef → Layout
definition_key definition = word_layout (codes "BA_DEF_") ++ (object_layout definition.object ++ spaced_text definition.name)

-- `BA_DEF_ BO_ "n" INT a b;`
unfoldable pub definition_layout : AttrDef → Layout
definition_layout definition = definition_key definition ++ (form_layout definition.form ++ statement_end)

-- ` "t"` or a blank and a number
unfoldable pub value_layout : AttrValue → Layout
value_layout (values.Text text) = spaced_text text
value_layout (values.Decimal number) = spaced_number number

-- `BA_DEF_DEF_ "n"`
unfoldable pub default_key : AttrDefault → Layout
default_key row = word_layout (codes "BA_DEF_DEF_") ++ spaced_text row.name

-- `BA_DEF_DEF_ "n" value;`
unfoldable pub default_layout : AttrDefault → Layout
default_layout row = default_key row ++ (value_layout row.value ++ statement_end)

-- `BA_ "n"`, `BA_ "n" BO_ id`, ..
unfoldable pub attribute_key : AttrRow → Layout
attribute_key row = word_layout (codes "BA_") ++ (spaced_text row.name ++ target_layout row.target)

-- `BA_ "n" BO_ id value;`
unfoldable pub attribute_layout : AttrRow → Layout
attribute_layout row = attribute_key row ++ (value_layout row.value ++ statement_end)

-- ---- float types, multiplexing, statements kept verbatim

-- `SIG_VALTYPE_ id s`
unfoldable pub float_key : FloatRow → Layout
float_key row = word_layout (codes "SIG_VALTYPE_") ++ signal_key row.number row.signal

unfoldable pub float_kind : FloatRow → Layout
float_kind row = Space ∷ Is (Mark colon) ∷ Space ∷ Is (Whole row.kind) ∷ []

-- `SIG_VALTYPE_ id s : t;`
unfoldable pub float_layout : FloatRow → Layout
float_layout row = float_key row ++ (float_kind row ++ statement_end)

-- ` a-b`
unfoldable pub range_layout : Range → Layout
range_layout range = Space ∷ Is (Whole range.first) ∷ Is (Mark minus) ∷ Is (Whole range.last) ∷ []

-- `, a-b`
unfoldable pub further_range : Range → Layout
further_range range = Is (Mark comma) ∷ Space ∷ Is (Whole range.first) ∷ Is (Mark minus) ∷ Is (Whole range.last) ∷ []

unfoldable pub ranges_layout : List Range → Layout
ranges_layout ranges = separated range_layout further_range ranges

-- `SG_MUL_VAL_ id s`
unfoldable pub mux_key : MuxRow → Layout
mux_key row = word_layout (codes "SG_MUL_VAL_") ++ signal_key row.number row.signal

-- `SG_MUL_VAL_ id s switch a-b, c-d;`
unfoldable pub mux_layout : MuxRow → Layout
mux_layout row = mux_key row ++ (spaced_name row.switch ++ (ranges_layout row.ranges ++ statement_end))

unfoldable pub piece_layout : List ℕ → Layout
piece_layout bytes = Is (Piece bytes) ∷ Space ∷ []

-- the tokens and a semicolon, with one blank between them
unfoldable pub kept_layout : Kept → Layout
kept_layout statement = flat_map piece_layout statement.tokens ++ statement_end

-- ---- databases

-- what is before the messages
unfoldable pub front_layout : Database → Layout
front_layout d = version_layout d.version
    ++ (symbols_layout d.symbols ++ (timing_layout d.bit_timing ++ (nodes_layout d.nodes ++ flat_map table_layout d.tables)))

unfoldable pub attributes_layout : Database → Layout
attributes_layout d = flat_map definition_layout d.definitions ++ (flat_map default_layout d.defaults ++ flat_map attribute_layout
    d.attributes)

-- the entries of signals, and then the statements kept verbatim
unfoldable pub rows_layout : Database → Layout
rows_layout d = flat_map values_layout d.values ++ (flat_map float_layout d.floats ++ (flat_map mux_layout d.muxes
    ++ flat_map kept_layout d.kept))

-- all kinds, in the order of the format
unfoldable pub database_layout : Database → Layout
database_layout d = front_layout d ++ (flat_map message_layout d.messages ++ (flat_map comment_layout d.comments
    ++ (attributes_layout d ++ rows_layout d)))

unfoldable pub canonical_text : Database → List ℕ
canonical_text database = layout_text (database_layout database)
