-- Reading of comments and attributes.
-- Source: the DBC file format, "Comment Definitions" and "User Defined Attribute Definitions".
use Rattle.std.specs.Prelude.{ℕ, List, [], ◌∷◌, codes, Option, Some, None}
use Rattle.dbc_values.specs.Lexical.{semicolon}
use Rattle.dbc_records.specs.Comments.{Comment}
use Rattle.dbc_records.specs.Attributes.{AttrDef, AttrDefault, AttrRow}
use Rattle.dbc_records.specs.declared.target.Target.{Target}
use Rattle.dbc_records.specs.declared.target.Target.TheVariants as targets
use Rattle.dbc_records.specs.declared.attribute.AttrValue.{AttrValue}
use Rattle.dbc_records.specs.declared.attribute.AttrValue.TheVariants as values
use Rattle.dbc_records.specs.declared.definition.Limits.{Limits}
use Rattle.dbc_records.specs.declared.definition.Object.{Object}
use Rattle.dbc_records.specs.declared.definition.Object.TheVariants as objects
use Rattle.dbc_records.specs.declared.definition.Form.{Form}
use Rattle.dbc_records.specs.declared.definition.Form.TheVariants as forms
use Rattle.dbc_reader.specs.Classes.{has_word, has_string}
use Rattle.dbc_reader.specs.inner.Readers.{Reader, ◌>>=◌, value, choose}
use Rattle.dbc_reader.specs.inner.Parts.{word_at, mark_at, name_at, text_at, id_at, decimal_at, begins_decimal, texts_from}

-- ---- what they are about

unfoldable pub node_target_at : Reader Target
node_target_at = do
  _ ← word_at (codes "BU_")
  name ← name_at
  value (targets.Node name)

unfoldable pub message_target_at : Reader Target
message_target_at = do
  _ ← word_at (codes "BO_")
  number ← id_at
  value (targets.Message number)

unfoldable pub signal_target_at : Reader Target
signal_target_at = do
  _ ← word_at (codes "SG_")
  number ← id_at
  name ← name_at
  value (targets.Signal number name)

-- `BU_ name`, `BO_ number`, `SG_ number name`, or nothing for the whole database
unfoldable pub target_at : Reader Target
target_at =
    choose (has_word (codes "BU_")) node_target_at
    (choose (has_word (codes "BO_")) message_target_at
    (choose (has_word (codes "SG_")) signal_target_at (value targets.Whole)))

-- `CM_ target "text" ;`
unfoldable pub comment_at : Reader Comment
comment_at = do
  _ ← word_at (codes "CM_")
  target ← target_at
  text ← text_at
  _ ← mark_at semicolon
  value (record { target = target; text = text })

-- ---- definitions

abbrev pub object_word_at : List ℕ → Object → Reader (Option Object)
object_word_at word object = do
  _ ← word_at word
  value (Some object)

-- `BU_`, `BO_`, `SG_` or `EV_`, or nothing for the whole database
unfoldable pub object_at : Reader (Option Object)
object_at =
    choose (has_word (codes "BU_")) (object_word_at (codes "BU_") objects.Node)
    (choose (has_word (codes "BO_")) (object_word_at (codes "BO_") objects.Message)
    (choose (has_word (codes "SG_")) (object_word_at (codes "SG_") objects.Signal)
    (choose (has_word (codes "EV_")) (object_word_at (codes "EV_") objects.EnvironmentVariable) (value None))))

-- two numbers, or nothing
unfoldable pub limits_at : Reader (Option Limits)
limits_at = choose begins_decimal (do
  minimum ← decimal_at
  maximum ← decimal_at
  value (Some (record { minimum = minimum; maximum = maximum }))) (value None)

abbrev pub limited_at : List ℕ → (Option Limits → Form) → Reader Form
limited_at word form = do
  _ ← word_at word
  limits ← limits_at
  value (form limits)

unfoldable pub string_form_at : Reader Form
string_form_at = do
  _ ← word_at (codes "STRING")
  value forms.Str

-- `ENUM "text" , "text"`, at least one
unfoldable pub enumeration_at : Reader Form
enumeration_at = do
  _ ← word_at (codes "ENUM")
  text ← text_at
  texts ← texts_from (text ∷ [])
  value (forms.Enumeration texts)

-- `INT`, `HEX` or `FLOAT` with limits or none, `STRING`, or `ENUM` with its texts
unfoldable pub form_at : Reader Form
form_at =
    choose (has_word (codes "INT")) (limited_at (codes "INT") forms.Int)
    (choose (has_word (codes "HEX")) (limited_at (codes "HEX") forms.Hex)
    (choose (has_word (codes "FLOAT")) (limited_at (codes "FLOAT") forms.Float)
    (choose (has_word (codes "STRING")) string_form_at enumeration_at)))

-- `BA_DEF_ object "name" form ;`
unfoldable pub definition_at : Reader AttrDef
definition_at = do
  _ ← word_at (codes "BA_DEF_")
  object ← object_at
  name ← text_at
  form ← form_at
  _ ← mark_at semicolon
  value (record { object = object; name = name; form = form })

-- ---- values

-- a string or a number
unfoldable pub value_at : Reader AttrValue
value_at = choose has_string (do
  text ← text_at
  value (values.Text text)) (do
    number ← decimal_at
    value (values.Decimal number))

-- `BA_DEF_DEF_ "name" value ;`
unfoldable pub default_at : Reader AttrDefault
default_at = do
  _ ← word_at (codes "BA_DEF_DEF_")
  name ← text_at
  given ← value_at
  _ ← mark_at semicolon
  value (record { name = name; value = given })

-- `BA_ "name" target value ;`
unfoldable pub attribute_at : Reader AttrRow
attribute_at = do
  _ ← word_at (codes "BA_")
  name ← text_at
  target ← target_at
  given ← value_at
  _ ← mark_at semicolon
  value (record { name = name; target = target; value = given })
