-- J1939 messages: which they are, and their PGN. Source: SAE J1939-21, "Protocol Data Unit Fields" and "Parameter Group
-- Numbers"; that an attribute `VFrameFormat` with the text `J1939PG` marks such a message is the usage of Vector's tools,
-- as cantools reads it.
use Rattle.std.specs.Prelude.{ℕ, ℤ, ◌+◌, ◌*◌, ◌/◌, ◌%◌, ◌^◌, ◌==◌, ◌&&◌, not, nat_le, nat_lt, Bool, false, List, [], Option, Some}
use Rattle.std.specs.Prelude.{None, codes, slice_get, pos, negsuc, if◌then◌else◌}
use Rattle.std.specs.List.{find}
use Rattle.std.specs.Str.{bytes_eq}
use Rattle.dbc_values.specs.Decimals.{Decimal}
use Rattle.dbc_records.specs.Attributes.{AttrDef, AttrRow, AttrDefault}
use Rattle.dbc_records.specs.Databases.{Database}
use Rattle.dbc_records.specs.declared.attribute.AttrValue.{AttrValue}
use Rattle.dbc_records.specs.declared.attribute.AttrValue.TheVariants as values
use Rattle.dbc_records.specs.declared.definition.Form.{Form}
use Rattle.dbc_records.specs.declared.definition.Form.TheVariants as forms
use Rattle.dbc_records.specs.Comments.{is_for_message}

-- ---- the fields of a 29-bit identifier; higher bits are ignored

abbrev pub priority_of : ℕ → ℕ
priority_of identifier = identifier / 2 ^ 26 % 8

abbrev pub extended_page_of : ℕ → ℕ
extended_page_of identifier = identifier / 2 ^ 25 % 2

abbrev pub page_of : ℕ → ℕ
page_of identifier = identifier / 2 ^ 24 % 2

-- the PDU format
abbrev pub format_of : ℕ → ℕ
format_of identifier = identifier / 2 ^ 16 % 256

-- the PDU specific: below format 240 the destination, otherwise a part of the PGN
abbrev pub specific_of : ℕ → ℕ
specific_of identifier = identifier / 2 ^ 8 % 256

abbrev pub source_of : ℕ → ℕ
source_of identifier = identifier % 256

-- from this format on a parameter group has no destination
abbrev pub first_broadcast_format : ℕ
first_broadcast_format = 240

unfoldable pub group_number_of : ℕ → ℕ
group_number_of identifier =
    extended_page_of identifier * 2 ^ 17 + page_of identifier * 2 ^ 16 + format_of identifier * 2 ^ 8
    + (if nat_le first_broadcast_format (format_of identifier) then specific_of identifier else 0)

-- ---- message IDs: an identifier, with bit 31 set if it is extended (29-bit)

abbrev pub is_extended : ℕ → Bool
is_extended number = number / 2 ^ 31 % 2 == 1

-- the greatest standard (11-bit) identifier
abbrev pub most_standard : ℕ
most_standard = 2047

-- a message ID that is no valid CAN identifier
unfoldable pub is_bad_number : ℕ → Bool
is_bad_number number = if is_extended number then not (number / 2 ^ 29 % 4 == 0) else nat_lt most_standard number

-- the message `VECTOR__INDEPENDENT_SIG_MSG`, which holds signals of no message
abbrev pub pseudo_number : ℕ
pseudo_number = 3221225472

-- ---- the frame format of a message

abbrev pub frame_format_name : List ℕ
frame_format_name = codes "VFrameFormat"

-- whether an entry gives the message its frame format
abbrev pub gives_format : ℕ → AttrRow → Bool
gives_format number row = bytes_eq row.name frame_format_name && is_for_message number row.target

-- the first entry of the attribute for a message ID, the first default, and the first definition
unfoldable pub format_row : ℕ → Database → Option AttrRow
format_row number database = find (gives_format number) database.attributes

unfoldable pub format_default : Database → Option AttrDefault
format_default database = find (λ row. bytes_eq row.name frame_format_name) database.defaults

unfoldable pub format_definition : Database → Option AttrDef
format_definition database = find (λ definition. bytes_eq definition.name frame_format_name) database.definitions

-- the entry's value, or that of the default
abbrev pub value_or_default : Option AttrRow → Option AttrDefault → Option AttrValue
value_or_default (Some row) default = Some row.value
value_or_default None (Some default) = Some default.value
value_or_default None None = None

-- the whole number that a decimal is; its normal form has digits after the point, or is negative, if it isn't one
abbrev pub index_at : ℕ → ℤ → Option ℕ
index_at mantissa (pos zeros) = Some (mantissa * 10 ^ zeros)
index_at mantissa (negsuc indexes) = None

abbrev pub index_of : Decimal → Option ℕ
index_of decimal = if decimal.negative then None else index_at decimal.mantissa decimal.exponent

abbrev pub text_at : List (List ℕ) → Option ℕ → Option (List ℕ)
text_at texts None = None
text_at texts (Some index) = slice_get texts index

-- the texts of an enumeration; other forms have none
abbrev pub texts_of : Form → List (List ℕ)
texts_of (forms.Int limits) = []
texts_of (forms.Hex limits) = []
texts_of (forms.Float limits) = []
texts_of forms.Str = []
texts_of (forms.Enumeration texts) = texts

abbrev pub texts_of_definition : Option AttrDef → List (List ℕ)
texts_of_definition None = []
texts_of_definition (Some definition) = texts_of definition.form

-- a text represents itself, a whole number for the text at that index of the definition's enumeration
abbrev pub text_of : Option AttrDef → Option AttrValue → Option (List ℕ)
text_of definition None = None
text_of definition (Some (values.Text text)) = Some text
text_of definition (Some (values.Decimal decimal)) = text_at (texts_of_definition definition) (index_of decimal)

-- the text of the attribute for a message ID
unfoldable pub frame_format : ℕ → Database → Option (List ℕ)
frame_format number database = text_of (format_definition database) (value_or_default (format_row number database)
    (format_default database))

-- ---- J1939 messages

abbrev pub group_format : List ℕ
group_format = codes "J1939PG"

abbrev pub is_group_format : Option (List ℕ) → Bool
is_group_format None = false
is_group_format (Some text) = bytes_eq text group_format

-- whether a message of this CAN identifier is a J1939 message: it has an extended (29-bit) identifier, which is valid (that of the
-- pseudo message isn't), and the frame format of J1939
unfoldable pub is_group_number : ℕ → Database → Bool
is_group_number number database = is_extended number && not (is_bad_number number) && is_group_format (frame_format number database)

-- the parameter group of a message ID
unfoldable pub group_of : ℕ → Database → Option ℕ
group_of number database = if is_group_number number database then Some (group_number_of number) else None
