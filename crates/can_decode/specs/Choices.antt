-- Which message a frame goes to. Source: the DBC file format, "Message Definitions" (message_id, whose highest bit marks an
-- extended (29-bit) identifier); SAE J1939-21, "Parameter Group Numbers". That an exact CAN identifier takes precedence over a
-- parameter group is the profile of candesk.
use Rattle.std.specs.Prelude.{◌==◌, ℕ, Bool, false, List, Option, Some, None, position, slice_get, option_map, option_and_then}
use Rattle.std.specs.Prelude.{if◌then◌else◌}
use Rattle.std.specs.Option.{option_or}
use Rattle.dbc_records.specs.Records.{Message}
use Rattle.dbc_records.specs.Databases.{Database}
use Rattle.can_entries.specs.Groups.{is_extended, group_number_of, group_of, is_group_number}
use Rattle.can_frames.specs.Frames.{Frame, body_of, frame_of, is_data, number_of}
use Rattle.can_decode.specs.declared.message_search.Choice.{Choice}

-- the message has exactly the CAN identifier; bit 31 marks an extended (29-bit) one
abbrev pub has_number : ℕ → Message → Bool
has_number number message = message.head.number == number

abbrev pub is_group : ℕ → Option ℕ → Bool
is_group group None = false
is_group group (Some other) = other == group

-- the message is one of the parameter group
abbrev pub in_group : Database → ℕ → Message → Bool
in_group database group message = is_group group (group_of message.head.number database)

-- the first message with the CAN identifier
abbrev pub exact_index : Database → ℕ → Option ℕ
exact_index database number = position (has_number number) database.messages

-- the first message of the CAN identifier's parameter group, for an extended (29-bit) one
abbrev pub group_index : Database → ℕ → Option ℕ
group_index database number = if is_extended number then position (in_group database (group_number_of number)) database.messages
    else None

-- The index of the message that a frame's CAN identifier goes to. No frame's CAN identifier is invalid, so such
-- messages are never chosen.
unfoldable pub index_of_number : Database → ℕ → Option ℕ
index_of_number database number = option_or (exact_index database number) (group_index database number)

-- the index of the message that a frame goes to; only data frames go to one
unfoldable pub chosen_index : Database → Frame → Option ℕ
chosen_index database frame = if is_data frame then index_of_number database (number_of frame) else None

-- the index of the message that the frame of a line goes to, if the line has one that goes to any
abbrev pub line_index : Database → List ℕ → Option ℕ
line_index database line = option_and_then (chosen_index database) (frame_of (body_of line))

abbrev pub number_of_data : Frame → Option ℕ
number_of_data frame = if is_data frame then Some (number_of frame) else None

-- the CAN identifier of the line's data frame
unfoldable pub data_number : List ℕ → Option ℕ
data_number line = option_and_then number_of_data (frame_of (body_of line))

-- ---- choices

abbrev pub is_group_message : Database → Option Message → Bool
is_group_message database None = false
is_group_message database (Some message) = is_group_number message.head.number database

-- an index, and whether the message there is a J1939 message
abbrev pub choice_at : Database → ℕ → Choice
choice_at database index = record { index = index; group = is_group_message database (slice_get database.messages index) }

unfoldable pub choice_of : Database → ℕ → Option Choice
choice_of database number = option_map (choice_at database) (index_of_number database number)

-- what a frame goes to; only data frames go to a message
unfoldable pub frame_choice : Database → Frame → Option Choice
frame_choice database frame = if is_data frame then choice_of database (number_of frame) else None

-- what the frame of a line goes to, if the line has one that goes to any message
abbrev pub line_choice : Database → List ℕ → Option Choice
line_choice database line = option_and_then (frame_choice database) (frame_of (body_of line))
