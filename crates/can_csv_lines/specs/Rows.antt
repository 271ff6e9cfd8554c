-- The rows of CSV of a log line: one for each signal that is shown. Source: RFC 4180, by the definitions of the crate `csv`; the
-- DBC file format, "Signal Definitions" (physical value, unit) and "Signal Value Descriptions". A value is reported as in its JSON
-- object, and bytes that aren't UTF-8 become characters one by one, which is the profile of candesk.
use Rattle.std.specs.Prelude.{ℕ, ℤ, List, [], ◌∷◌, ◌++◌, length, map, Option, Some, None, codes, decimal, if◌then◌else◌}
use Rattle.std.specs.List.{flat_map}
use Rattle.csv.specs.Writing.{default_writer, row_text}
use Rattle.can_json_texts.specs.Texts.{text_of}
use Rattle.dbc_records.specs.Records.{Entry}
use Rattle.can_bits.specs.Bits.{raw_value}
use Rattle.can_layout.specs.Decoders.{Decoder, first_entry}
use Rattle.can_layout.specs.Diagrams.{cause_word}
use Rattle.can_layout.specs.declared.row.Row.{Row}
use Rattle.can_layout.specs.declared.row.Reading.{Reading}
use Rattle.can_layout.specs.declared.row.Reading.TheVariants.{Refused, Read}
use Rattle.can_frames.specs.Frames.{Frame, is_data, body_of, frame_of}
use Rattle.can_decode.specs.DecodedLines.{Bus, Target, chosen_target, is_refused, shown_rows}
use Rattle.can_json_lines.specs.Signals.{value_text}
use Rattle.can_json_lines.specs.Lines.{time_of, interface_of}

-- ---- fields

-- the unit and the name of a value: the name of a raw value if it has one, otherwise the unit
abbrev pub given_fields : Decoder → Option Entry → List (List ℕ)
given_fields decoder None = text_of decoder.unit ∷ [] ∷ []
given_fields decoder (Some entry) = [] ∷ text_of entry.text ∷ []

abbrev pub value_fields : Decoder → ℤ → List (List ℕ)
value_fields decoder raw = value_text decoder raw ∷ given_fields decoder (first_entry raw decoder.entries)

-- value, unit and name, or why there is no value, like `?float`
abbrev pub reading_fields : List ℕ → Reading → List (List ℕ)
reading_fields bytes (Refused cause) = (codes "?" ++ cause_word cause) ∷ [] ∷ [] ∷ []
reading_fields bytes (Read decoder) = value_fields decoder (raw_value bytes decoder.signed decoder.bits)

-- message, signal, value, unit and name
abbrev pub stated_fields : List ℕ → List ℕ → Row → List (List ℕ)
stated_fields message bytes row = message ∷ row.name ∷ reading_fields bytes row.reading

-- time, interface and identifier
abbrev pub came_fields : List ℕ → Frame → List (List ℕ)
came_fields body frame = time_of body ∷ text_of (interface_of body) ∷ decimal frame.identifier ∷ []

-- ---- rows

-- `2.25,can0,419361073,CCVS,Speed,20.5,km/h,`
abbrev pub signal_fields : List (List ℕ) → List ℕ → List ℕ → Row → List (List ℕ)
signal_fields came message bytes row = came ++ stated_fields message bytes row

-- a row for each signal that is shown, in order
abbrev pub signal_rows : List (List ℕ) → Frame → Target → List (List (List ℕ))
signal_rows came frame target =
    map (signal_fields came target.message.head.name frame.bytes) (shown_rows frame.bytes target.plan target.plan.rows)

-- the rows of a message, unless the data has the wrong length
abbrev pub message_rows : List (List ℕ) → Frame → Target → List (List (List ℕ))
message_rows came frame target =
    if is_refused target.short (length frame.bytes) target.plan.size then [] else signal_rows came frame target

abbrev pub data_rows : List (List ℕ) → Frame → Option Target → List (List (List ℕ))
data_rows came frame None = []
data_rows came frame (Some target) = message_rows came frame target

-- the rows of a data frame; no other frame has any
abbrev pub frame_rows : List (List ℕ) → Frame → Option Target → List (List (List ℕ))
frame_rows came frame target = if is_data frame then data_rows came frame target else []

abbrev pub rows_by : Bus → List ℕ → Option Frame → List (List (List ℕ))
rows_by bus body None = []
rows_by bus body (Some frame) =
    frame_rows (came_fields body frame) frame (chosen_target bus.short bus.database frame)

-- the rows of a line
unfoldable pub line_rows : Bus → List ℕ → List (List (List ℕ))
line_rows bus line = rows_by bus (body_of line) (frame_of (body_of line))

-- ---- texts

-- rows, each with an LF after it
abbrev pub rows_text : List (List (List ℕ)) → List ℕ
rows_text rows = flat_map (row_text default_writer) rows

abbrev pub csv_line : Bus → List ℕ → List ℕ
csv_line bus line = rows_text (line_rows bus line)

-- the names of the columns
abbrev pub header : List (List ℕ)
header =
    codes "time" ∷ codes "interface" ∷ codes "id" ∷ codes "message" ∷ codes "signal" ∷ codes "value" ∷ codes "unit" ∷ codes "name"
    ∷ []
