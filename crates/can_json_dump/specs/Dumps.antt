-- A database as JSON objects, a line each: its messages, and then one object for everything else. Source: the DBC file format,
-- "Structure of the DBC File"; RFC 8259. The names of the members are the profile of candesk.
use Rattle.std.specs.Prelude.{ℕ, ◌==◌, Bool, false, not, List, [], ◌∷◌, ◌++◌, map, codes, filter}
use Rattle.json.specs.Json.{Json}
use Rattle.can_json_texts.specs.Members.{Member, object_of, text_members, json_text}
use Rattle.can_json_texts.specs.Values.{array_of, or_null}
use Rattle.can_json_texts.specs.Records.{decimal_json, names_json, table_json, definition_json, default_json, comment_json}
use Rattle.can_json_texts.specs.Records.{attribute_json, values_json, float_json, mux_json, kept_json}
use Rattle.dbc_records.specs.Records.{ValueRow, FloatRow, MuxRow}
use Rattle.dbc_records.specs.Comments.{Comment}
use Rattle.dbc_records.specs.Attributes.{AttrRow}
use Rattle.dbc_records.specs.Databases.{Database}
use Rattle.dbc_records.specs.declared.target.Target.{Target}
use Rattle.dbc_records.specs.declared.target.Target.TheVariants as targets
use Rattle.can_references.specs.SignalNames.{same_signal}
use Rattle.can_references.specs.Finding.{occurs_in}
use Rattle.can_references.specs.CrossReferences.{numbers_of, signals_of}
use Rattle.can_json_dump.specs.Messages.{message_json}

-- whether a message has the CAN identifier
abbrev pub has_message : Database → ℕ → Bool
has_message database number = occurs_in (λ a b. a == b) number (numbers_of database)

-- whether a message of the CAN identifier has a signal of the name
abbrev pub has_signal : Database → ℕ → List ℕ → Bool
has_signal database number name = occurs_in same_signal (number, name) (signals_of database)

-- whether a statement is about a message that exists, or a signal that does
abbrev pub is_given : Database → Target → Bool
is_given database targets.Whole = false
is_given database (targets.Node name) = false
is_given database (targets.Message number) = has_message database number
is_given database (targets.Signal number name) = has_signal database number name

-- ---- what belongs to no message

abbrev pub other_comments : Database → List Comment
other_comments database = filter (λ comment. not (is_given database comment.target)) database.comments

abbrev pub other_attributes : Database → List AttrRow
other_attributes database = filter (λ row. not (is_given database row.target)) database.attributes

abbrev pub other_values : Database → List ValueRow
other_values database = filter (λ row. not (has_signal database row.number row.signal)) database.values

abbrev pub other_floats : Database → List FloatRow
other_floats database = filter (λ row. not (has_signal database row.number row.signal)) database.floats

abbrev pub other_muxes : Database → List MuxRow
other_muxes database = filter (λ row. not (has_signal database row.number row.signal)) database.muxes

abbrev pub front_members : Database → List Member
front_members database =
    text_members (codes "version") database.version
    ++ ((codes "symbols", names_json database.symbols)
    ∷ (codes "bit_timing", or_null (λ numbers. array_of (map decimal_json numbers)) database.bit_timing)
    ∷ (codes "nodes", names_json database.nodes) ∷ [])

abbrev pub definition_members : Database → List Member
definition_members database =
    (codes "value_tables", array_of (map table_json database.tables))
    ∷ (codes "definitions", array_of (map definition_json database.definitions))
    ∷ (codes "defaults", array_of (map default_json database.defaults)) ∷ []

abbrev pub other_members : Database → List Member
other_members database =
    (codes "comments", array_of (map comment_json (other_comments database)))
    ∷ (codes "attributes", array_of (map attribute_json (other_attributes database)))
    ∷ (codes "values", array_of (map values_json (other_values database)))
    ∷ (codes "value_types", array_of (map float_json (other_floats database)))
    ∷ (codes "multiplexing", array_of (map mux_json (other_muxes database)))
    ∷ (codes "kept", array_of (map kept_json database.kept)) ∷ []

abbrev pub rest_json : Database → Json
rest_json database = object_of (front_members database ++ (definition_members database ++ other_members database))

-- ---- all

abbrev pub json_line : Json → List ℕ
json_line value = json_text value ++ codes "\n"

-- a line for each message, and the last for the rest
abbrev pub dump_lines : Database → List (List ℕ)
dump_lines database =
    map (λ message. json_line (message_json database message)) database.messages ++ (json_line (rest_json database) ∷ [])
