-- What is written for a line of a log. Source: cantools, the single-line form of `decode`; SAE J1939-21, "Protocol Data Unit
-- Fields", for what is in brackets. The text of frames without values is the profile of candesk.
use Rattle.std.specs.Prelude.{ℕ, nat_le, nat_lt, Bool, false, ◌&&◌, ◌||◌, List, [], ◌∷◌, ◌++◌, length, filter, Option, Some, None}
use Rattle.std.specs.Prelude.{◌≡◌, ◌==◌, not, take, slice_get, option_map, option_and_then, codes, decimal, if◌then◌else◌}
use Rattle.std.specs.List.{flat_map}
use Rattle.std.specs.Fmt.{digits}
use Rattle.dbc_records.specs.Records.{Message}
use Rattle.dbc_records.specs.Databases.{Database}
use Rattle.can_entries.specs.Groups.{is_group_number, priority_of, format_of, specific_of, source_of, first_broadcast_format}
use Rattle.can_layout.specs.Plans.{Plan, plan_of, is_present, is_whole}
use Rattle.can_layout.specs.declared.row.Row.{Row}
use Rattle.can_frames.specs.Frames.{Frame, body_of, frame_of}
use Rattle.can_frames.specs.declared.frame.Kind.{Kind}
use Rattle.can_frames.specs.declared.frame.Kind.TheVariants.{Classic, Fd, Remote, Error}
use Rattle.can_line_stream.specs.Lines.{lines_of}
use Rattle.can_line_stream.specs.LineTexts.{texts}
use Rattle.can_decode.specs.declared.short.Short.{Short}
use Rattle.can_decode.specs.declared.short.Short.TheVariants.{Refuse, Show}
use Rattle.can_decode.specs.Values.{reading_text}
use Rattle.can_decode.specs.Choices.{chosen_index}

-- ---- signals

-- `S: 1.5 km/h`
unfoldable pub signal_text : List ℕ → Row → List ℕ
signal_text bytes row = row.name ++ (codes ": " ++ reading_text bytes row.reading)

-- A signal is shown if it is present in the data. Of data that is shorter than the message only those signals are shown whose bits
-- are all in it.
abbrev pub is_shown : List ℕ → Plan → Row → Bool
is_shown bytes plan row = is_present bytes plan.rows (Some row) && (nat_le plan.size (length bytes) || is_whole bytes row)

-- the signals that are shown, in order
abbrev pub shown_rows : List ℕ → Plan → List Row → List Row
shown_rows bytes plan rows = filter (is_shown bytes plan) rows

abbrev pub further_signal : List ℕ → Row → List ℕ
further_signal bytes row = codes ", " ++ signal_text bytes row

-- the text of the first one, and those of all later ones
abbrev pub listed : (Row → List ℕ) → (Row → List ℕ) → List Row → List ℕ
listed first further [] = []
listed first further (row ∷ rows) = first row ++ flat_map further rows

-- `S: 1.5 km/h, T: open`
abbrev pub signals_text : List ℕ → List Row → List ℕ
signals_text bytes rows = listed (signal_text bytes) (further_signal bytes) rows

-- after `before` the text has the signals that are shown of those up to an index, by their texts in data, and `some` is true
-- if there are any
pub record IsListedTo (first further : List ℕ → Row → List ℕ) (before bytes : List ℕ) (plan : Plan) (index : ℕ) (text : List ℕ)
    (some : Bool) : Type 0 where
  pub written : text ≡ before ++ listed (first bytes) (further bytes) (shown_rows bytes plan (take index plan.rows))
  pub any : some ≡ not (length (shown_rows bytes plan (take index plan.rows)) == 0)

-- ---- messages

-- what a frame goes to: a message, its plan, whether it is a J1939 message, and how truncated frames are decoded
pub record Target : Type 0 where
  pub message : Message
  pub plan : Plan
  pub group : Bool
  pub short : Short

abbrev pub target_of : Short → Database → Message → Target
target_of short database message =
    record {
      message = message;
      plan = plan_of database message;
      group = is_group_number message.head.number database;
      short = short;
    }

abbrev pub destination_text : ℕ → List ℕ
destination_text identifier = if nat_le first_broadcast_format (format_of identifier) then [] else codes " d"
    ++ decimal (specific_of identifier)

-- `[p6 s49]`, or `[p3 s0 d255]` if the PDU format has a destination: priority, source and destination of the frame
unfoldable pub group_text : ℕ → List ℕ
group_text identifier =
    codes "[p" ++ (decimal (priority_of identifier)
    ++ (codes " s" ++ (decimal (source_of identifier) ++ (destination_text identifier ++ codes "]"))))

abbrev pub bracket_text : ℕ → Bool → List ℕ
bracket_text identifier group = if group then group_text identifier else []

-- `Name(S: 1.5 km/h)`, with the brackets of a J1939 message
unfoldable pub message_text : Frame → Target → List ℕ
message_text frame target =
    target.message.head.name
    ++ (bracket_text frame.identifier target.group
    ++ (codes "(" ++ (signals_text frame.bytes (shown_rows frame.bytes target.plan target.plan.rows) ++ codes ")")))

-- the pieces, one after another
abbrev pub join : List (List ℕ) → List ℕ
join pieces = flat_map (λ piece. piece) pieces

unfoldable pub wrong_size_text : ℕ → ℕ → List ℕ
wrong_size_text there wanted = join (codes "Wrong data size: " ∷ decimal there ∷ codes " instead of " ∷ decimal wanted
    ∷ codes " bytes" ∷ [])

-- the identifier in decimal and in lower case hexadecimal
unfoldable pub unknown_text : ℕ → List ℕ
unknown_text identifier = join (codes "Unknown frame id " ∷ decimal identifier ∷ codes " (0x" ∷ digits 16 false identifier
    ∷ codes ")" ∷ [])

-- data that is shorter than the message is refused, or what is there is shown
abbrev pub is_refused : Short → ℕ → ℕ → Bool
is_refused Refuse there wanted = nat_lt there wanted
is_refused Show there wanted = false

-- data that is longer than the message is read from its front
abbrev pub data_text : Frame → Option Target → List ℕ
data_text frame None = unknown_text frame.identifier
data_text frame (Some target) =
    if is_refused target.short (length frame.bytes) target.plan.size then wrong_size_text (length frame.bytes) target.plan.size else
    message_text frame target

abbrev pub text_of_kind : Kind → Frame → Option Target → List ℕ
text_of_kind Error frame target = codes "Error frame"
text_of_kind Remote frame target = codes "Remote frame"
text_of_kind Classic frame target = data_text frame target
text_of_kind Fd frame target = data_text frame target

-- ---- lines

-- what a frame of the database's bus goes to
unfoldable pub chosen_target : Short → Database → Frame → Option Target
chosen_target short database frame =
    option_and_then (λ index. option_map (target_of short database) (slice_get database.messages index))
    (chosen_index database frame)

abbrev pub frame_text : Short → Database → Frame → List ℕ
frame_text short database frame = text_of_kind frame.kind frame (chosen_target short database frame)

abbrev pub body_and_frame : Short → Database → List ℕ → Option Frame → List ℕ
body_and_frame short database body None = body
body_and_frame short database body (Some frame) = body ++ (codes " :: " ++ frame_text short database frame)

-- the line without a final CR, followed by its decoded frame
unfoldable pub decoded_line : Short → Database → List ℕ → List ℕ
decoded_line short database line = body_and_frame short database (body_of line) (frame_of (body_of line))

-- a bus whose lines are decoded: its database, and how truncated frames are decoded
pub record Bus : Type 0 where
  pub database : Database
  pub short : Short

abbrev pub bus_line : Bus → List ℕ → List ℕ
bus_line bus line = decoded_line bus.short bus.database line

-- what is written for a whole log, if no line of it is too long
abbrev pub decoded_log : Bus → List ℕ → List ℕ
decoded_log bus input = texts (bus_line bus) (lines_of input)
