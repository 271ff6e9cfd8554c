-- A line of a log as a JSON object: it contains what `decoded_line` contains. Source: can-utils, the log format of `candump -L`
-- (lib.h, "CAN log file"); SAE J1939-21, "Protocol Data Unit Fields" and "Parameter Group Numbers"; RFC 8259. The names of the
-- members are the profile of candesk.
use Rattle.std.specs.Prelude.{ℕ, ◌-◌, ◌==◌, nat_le, ◌&&◌, Bool, true, false, List, [], ◌∷◌, ◌++◌, length, take, drop, Option, Some}
use Rattle.std.specs.Prelude.{None}
use Rattle.std.specs.Prelude.{codes, decimal, if◌then◌else◌}
use Rattle.hex.specs.Hex.{encode_upper}
use Rattle.json.specs.Json.{Json, boolean, string, number, object}
use Rattle.can_json_texts.specs.Members.{Member, object_of, json_text, text_members}
use Rattle.dbc_values.specs.Lexical.{digit_zero, is_digit}
use Rattle.dbc_records.specs.Records.{Message}
use Rattle.dbc_records.specs.Databases.{Database}
use Rattle.can_entries.specs.Groups.{group_number_of, priority_of, source_of, specific_of, format_of, first_broadcast_format}
use Rattle.can_frames.specs.LogLines.{first_word, after_first_word}
use Rattle.can_frames.specs.Frames.{Frame, is_data, body_of, frame_of}
use Rattle.can_frames.specs.declared.frame.Kind.{Kind}
use Rattle.can_frames.specs.declared.frame.Kind.TheVariants.{Classic, Fd, Remote, Error}
use Rattle.can_decode.specs.declared.short.Short.{Short}
use Rattle.can_decode.specs.DecodedLines.{Bus, Target, chosen_target, is_refused}
use Rattle.can_json_lines.specs.Signals.{signal_members}

-- ---- the words of a line

-- there is a leading zero, and a digit follows it
abbrev pub has_leading_zero : List ℕ → Bool
has_leading_zero [] = false
has_leading_zero (b ∷ []) = false
has_leading_zero (b ∷ next ∷ rest) = b == digit_zero && is_digit next

-- digits without such zeros
abbrev pub without_leading_zeros : List ℕ → List ℕ
without_leading_zeros [] = []
without_leading_zeros (b ∷ rest) = if has_leading_zero (b ∷ rest) then without_leading_zeros rest else b ∷ rest

-- what is between the parentheses of the stamp
unfoldable pub time_of : List ℕ → List ℕ
time_of body = without_leading_zeros (take (length (first_word body) - 2) (drop 1 (first_word body)))

unfoldable pub interface_of : List ℕ → List ℕ
interface_of body = first_word (after_first_word body)

-- what follows the frame
unfoldable pub rest_of : List ℕ → List ℕ
rest_of body = after_first_word (after_first_word (after_first_word body))

-- ---- frames

abbrev pub kind_word : Kind → List ℕ
kind_word Classic = codes "data"
kind_word Fd = codes "fd"
kind_word Remote = codes "remote"
kind_word Error = codes "error"

-- `"data":"FF80"`, of a data frame
abbrev pub data_members : Frame → List Member
data_members frame = if is_data frame then (codes "data", string (encode_upper frame.bytes)) ∷ [] else []

abbrev pub number_member : List ℕ → ℕ → Member
number_member key n = (key, number (decimal n))

-- ---- messages

-- the destination, if the PDU format has one
abbrev pub destination_members : ℕ → List Member
destination_members identifier = if nat_le first_broadcast_format (format_of identifier) then [] else number_member
    (codes "destination") (specific_of identifier) ∷ []

abbrev pub group_members : ℕ → List Member
group_members identifier =
    number_member (codes "pgn") (group_number_of identifier)
    ∷ number_member (codes "priority") (priority_of identifier)
    ∷ number_member (codes "source") (source_of identifier)
    ∷ destination_members identifier

-- `"j1939":{"pgn":65265,"priority":6,"source":49}`, of a J1939 message
abbrev pub j1939_members : ℕ → Bool → List Member
j1939_members identifier group = if group then (codes "j1939", object_of (group_members identifier)) ∷ [] else []

-- the message that a frame goes to
abbrev pub message_members : Frame → Target → List Member
message_members frame target =
    (codes "message", string target.message.head.name)
    ∷ number_member (codes "number") target.message.head.number
    ∷ j1939_members frame.identifier target.group

-- why a frame isn't decoded
abbrev pub not_decoded : List ℕ → Member
not_decoded cause = (codes "not_decoded", string cause)

abbrev pub wrong_size_members : ℕ → List Member
wrong_size_members wanted = not_decoded (codes "wrong size") ∷ number_member (codes "size") wanted ∷ []

abbrev pub values_members : Frame → Target → List Member
values_members frame target =
    if is_refused target.short (length frame.bytes) target.plan.size then wrong_size_members target.plan.size else
    (codes "signals", object_of (signal_members frame.bytes target.plan)) ∷ []

-- the decoded text of a data frame
abbrev pub data_stated : Frame → Option Target → List Member
data_stated frame None = not_decoded (codes "unknown id") ∷ []
data_stated frame (Some target) = message_members frame target ++ values_members frame target

-- the decoded text of a frame
abbrev pub stated_members : Kind → Frame → Option Target → List Member
stated_members Error frame target = not_decoded (codes "error frame") ∷ []
stated_members Remote frame target = not_decoded (codes "remote frame") ∷ []
stated_members Classic frame target = data_stated frame target
stated_members Fd frame target = data_stated frame target

-- ---- lines

-- `"rest":"R"`, if something follows the frame
abbrev pub rest_members : List ℕ → List Member
rest_members [] = []
rest_members (b ∷ rest) = text_members (codes "rest") (b ∷ rest)

-- the identifier format, standard (11-bit) or extended (29-bit), and the kind of a frame
abbrev pub flag_members : Bool → Kind → List Member
flag_members extended kind = (codes "extended", boolean extended) ∷ (codes "kind", string (kind_word kind)) ∷ []

-- the contents of the frame's word
abbrev pub frame_members : Frame → List Member
frame_members frame =
    number_member (codes "id") frame.identifier ∷ (flag_members frame.extended frame.kind ++ data_members frame)

-- all members of a line with a frame
unfoldable pub known_members : List ℕ → Frame → Option Target → List Member
known_members body frame target =
    (codes "time", number (time_of body))
    ∷ (text_members (codes "interface") (interface_of body)
    ++ (frame_members frame
    ++ (stated_members frame.kind frame target ++ rest_members (rest_of body))))

abbrev pub members_by : Bus → List ℕ → Option Frame → List Member
members_by bus body None = text_members (codes "line") body
members_by bus body (Some frame) = known_members body frame (chosen_target bus.short bus.database frame)

-- the members of a line's object
unfoldable pub line_members : Bus → List ℕ → List Member
line_members bus line = members_by bus (body_of line) (frame_of (body_of line))

abbrev pub line_json : Bus → List ℕ → Json
line_json bus line = object_of (line_members bus line)

-- the object of a line, without blanks
abbrev pub json_line : Bus → List ℕ → List ℕ
json_line bus line = json_text (line_json bus line)
