-- A message of a database as a JSON object. Source: the DBC file format, "Message Definitions", "Signal Definitions", "Signal
-- Value Descriptions" and "Extended Multiplexing"; SAE J1939-21, "Parameter Group Numbers"; RFC 8259. The names of the members are
-- the profile of candesk.
use Rattle.std.specs.Prelude.{ℕ, ◌-◌, ◌%◌, ◌^◌, Bool, List, [], ◌∷◌, ◌++◌, Option, Some, None, map, codes, decimal, slice_get}
use Rattle.std.specs.Prelude.{if◌then◌else◌}
use Rattle.std.specs.List.{range_with_len}
use Rattle.json.specs.Json.{Json, null, boolean, string}
use Rattle.can_json_texts.specs.Members.{Member, object_of, text_members, json_text}
use Rattle.can_json_texts.specs.Values.{array_of, or_null}
use Rattle.can_json_texts.specs.Records.{whole_json, decimal_json, name_json, names_json, entries_json, ranges_json}
use Rattle.can_json_texts.specs.Records.{own_attribute_json}
use Rattle.can_json_texts.specs.Records.{tag_json}
use Rattle.dbc_records.specs.Records.{Head, Signal, Message, is_intel}
use Rattle.dbc_records.specs.Comments.{Comment}
use Rattle.dbc_records.specs.Attributes.{AttrRow}
use Rattle.dbc_records.specs.Databases.{Database}
use Rattle.can_bits.specs.Bits.{position_of}
use Rattle.can_bits.specs.declared.field.Field.{Field}
use Rattle.can_entries.specs.Rows.{rows_of, first_values, entries_of}
use Rattle.can_entries.specs.Groups.{group_of, is_bad_number, is_extended}
use Rattle.can_entries.specs.Links.{Link}
use Rattle.can_layout.specs.Plans.{Plan, plan_of}
use Rattle.can_layout.specs.Diagrams.{cause_word, name_of}
use Rattle.can_layout.specs.declared.row.Row.{Row}
use Rattle.can_layout.specs.declared.row.Reading.{Reading}
use Rattle.can_layout.specs.declared.row.Reading.TheVariants.{Refused, Read}
use Rattle.can_json_dump.specs.Subjects.{Subject, comment_of, attributes_of}

-- ---- comments and attributes

-- `"comment":null`, or the text
abbrev pub comment_members : Option Comment → List Member
comment_members None = (codes "comment", null) ∷ []
comment_members (Some comment) = text_members (codes "comment") comment.text

abbrev pub attributes_json : List AttrRow → Json
attributes_json rows = array_of (map own_attribute_json rows)

-- the comment and the attributes of a message or a signal
abbrev pub remark_members : Database → Subject → List Member
remark_members database subject =
    comment_members (comment_of database subject) ++ ((codes "attributes", attributes_json (attributes_of database subject)) ∷ [])

-- ---- signals

-- where the bit with the weight 2 ^ k is
abbrev pub position_upward : Field → ℕ → ℕ
position_upward field k = position_of field (if is_intel field.order then k else field.length - 1 - k)

-- the positions of the bits, the least significant one first
abbrev pub positions_of : Field → List ℕ
positions_of field = map (position_upward field) (range_with_len 0 field.length)

abbrev pub order_word : Bool → List ℕ
order_word intel = if intel then codes "intel" else codes "motorola"

-- why the signal can't be decoded, or null
abbrev pub refused_json : Reading → Json
refused_json (Refused cause) = string (cause_word cause)
refused_json (Read decoder) = null

-- `{"switch":"N","ranges":[[3,3],[5,6]]}`
abbrev pub link_json : List Signal → Link → Json
link_json signals link =
    object_of ((codes "switch", name_json (name_of (slice_get signals link.switch)))
    ∷ (codes "ranges", ranges_json link.ranges) ∷ [])

-- the multiplexors (switches) of a signal, its own first; null if the signal is never present
abbrev pub chain_json : List Signal → Option (List Link) → Json
chain_json signals chain = or_null (λ links. array_of (map (link_json signals) links)) chain

abbrev pub bit_field_members : Signal → List Member
bit_field_members signal =
    (codes "start", whole_json signal.start) ∷ (codes "length", whole_json signal.length)
    ∷ (codes "order", string (order_word signal.intel)) ∷ (codes "signed", boolean signal.signed) ∷ []

abbrev pub scale_members : Signal → List Member
scale_members signal =
    (codes "factor", decimal_json signal.factor) ∷ (codes "offset", decimal_json signal.offset)
    ∷ (codes "minimum", decimal_json signal.minimum) ∷ (codes "maximum", decimal_json signal.maximum) ∷ []

abbrev pub use_members : Signal → List Member
use_members signal =
    text_members (codes "unit") signal.unit
    ++ ((codes "receivers", names_json signal.receivers) ∷ (codes "tag", tag_json signal.tag) ∷ [])

-- what the plan of the message has on the signal
abbrev pub plan_members : List Signal → Row → List Member
plan_members signals row =
    (codes "positions", array_of (map whole_json (positions_of row.field))) ∷ (codes "refused", refused_json row.reading)
    ∷ (codes "chain", chain_json signals row.chain) ∷ []

-- its value descriptions, its comment and its attributes
abbrev pub given_members : Database → ℕ → List ℕ → List Member
given_members database number name =
    (codes "values", entries_json (entries_of (first_values name (rows_of number database))))
    ∷ remark_members database (record { number = number; signal = Some name })

-- the contents of the statement itself
abbrev pub stated_members : Signal → List Member
stated_members signal = bit_field_members signal ++ (scale_members signal ++ use_members signal)

abbrev pub signal_members : Database → Message → Signal → Row → List Member
signal_members database message signal row =
    stated_members signal ++ (plan_members message.signals row ++ given_members database message.head.number signal.name)

abbrev pub signal_member : Database → Message → Signal → Row → Member
signal_member database message signal row = (signal.name, object_of (signal_members database message signal row))

-- what is made of items in pairs
abbrev pub paired : {A B C : Type 0} → (A → B → C) → List A → List B → List C
paired f [] ys = []
paired f (x ∷ xs) [] = []
paired f (x ∷ xs) (y ∷ ys) = f x y ∷ paired f xs ys

-- ---- messages

-- the identifier, and whether it is extended (29-bit); null for a message ID that is no valid CAN identifier
abbrev pub identifier_members : ℕ → List Member
identifier_members number =
    if is_bad_number number then (codes "id", null) ∷ (codes "extended", null) ∷ []
    else (codes "id", whole_json (number % 2 ^ 31)) ∷ (codes "extended", boolean (is_extended number)) ∷ []

abbrev pub head_members : Head → List Member
head_members head =
    (codes "name", name_json head.name) ∷ (codes "number", whole_json head.number)
    ∷ (identifier_members head.number
    ++ ((codes "size", whole_json head.size) ∷ (codes "sender", name_json head.sender) ∷ []))

-- the parameter group, or null
abbrev pub group_json : Option ℕ → Json
group_json group = or_null whole_json group

-- a message with its plan
pub record Planned : Type 0 where
  pub message : Message
  pub plan : Plan

abbrev pub planned_members : Database → Planned → List Member
planned_members database planned =
    head_members planned.message.head
    ++ ((codes "pgn", group_json (group_of planned.message.head.number database))
    ∷ (remark_members database (record { number = planned.message.head.number; signal = None })
    ++ ((
      codes "signals",
      object_of (paired (signal_member database planned.message) planned.message.signals
          planned.plan.rows),
    ) ∷ [])))

abbrev pub message_members : Database → Message → List Member
message_members database message = planned_members database (record { message = message; plan = plan_of database message })

abbrev pub message_json : Database → Message → Json
message_json database message = object_of (message_members database message)

-- a signal of a message with its row of the plan
pub record PlannedSignal : Type 0 where
  pub message : Message
  pub signal : Signal
  pub row : Row

abbrev pub placed_members : Database → PlannedSignal → List Member
placed_members database placed = signal_members database placed.message placed.signal placed.row
