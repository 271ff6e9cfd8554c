-- What an edit touches: message IDs, and with them the frames that these concern. Source: SAE J1939-21, "Parameter Group Numbers",
-- for which frames belong to one parameter group.
use Rattle.std.specs.Prelude.{ℕ, Bool, false, not, ◌&&◌, ◌||◌, ◌==◌, List, [], ◌∷◌, Option, slice_get}
use Rattle.std.specs.List.{list_any}
use Rattle.std.specs.Option.{option_map_or}
use Rattle.dbc_records.specs.Databases.{Database}
use Rattle.can_entries.specs.Groups.{is_extended, is_bad_number, group_number_of}
use Rattle.can_frames.specs.Frames.{Frame, body_of, frame_of, is_data, number_of}
use Rattle.dbc_edits.specs.declared.edit.Edit.{Edit}
use Rattle.dbc_edits.specs.declared.edit.Edit.TheVariants as edits

-- ---- the CAN identifiers of an edit

-- the CAN identifier of the message at an index
abbrev pub number_at : ℕ → Database → List ℕ
number_at index database = option_map_or (λ message. message.head.number ∷ []) (slice_get database.messages index) []

-- The CAN identifiers whose messages or entries may change. An edit of value tables has none: they are not about messages.
abbrev pub edit_numbers : Database → Edit → List ℕ
edit_numbers database (edits.AddMessage index head) = head.number ∷ []
edit_numbers database (edits.RemoveMessage index) = number_at index database
edit_numbers database (edits.ChangeMessage index change) = number_at index database
edit_numbers database (edits.Renumber index number) = number ∷ number_at index database
edit_numbers database (edits.AddSignal index at signal) = number_at index database
edit_numbers database (edits.RemoveSignal index name) = number_at index database
edit_numbers database (edits.ChangeSignal index signal) = number_at index database
edit_numbers database (edits.RenameSignal index old new) = number_at index database
edit_numbers database (edits.SetMux row) = row.number ∷ []
edit_numbers database (edits.SetValues row) = row.number ∷ []
edit_numbers database (edits.DropMux number signal) = number ∷ []
edit_numbers database (edits.DropValues number signal) = number ∷ []
edit_numbers database (edits.DropTable name) = []
edit_numbers database (edits.SetTable row) = []
edit_numbers database (edits.SetAttribute name number value) = number ∷ []
edit_numbers database (edits.DropAttribute name number) = number ∷ []

-- a message ID is one of these
abbrev pub is_among : List ℕ → ℕ → Bool
is_among numbers number = list_any (λ other. other == number) numbers

-- ---- the frames that a CAN identifier concerns

-- a message of this CAN identifier may be a J1939 message: it has an extended (29-bit) identifier, which is valid (that of
-- the pseudo message isn't)
unfoldable pub may_have_group : ℕ → Bool
may_have_group number = is_extended number && not (is_bad_number number)

-- both CAN identifiers are extended (29-bit), with the same parameter group
abbrev pub shares_group : ℕ → ℕ → Bool
shares_group frame_number number = is_extended frame_number && (may_have_group number && group_number_of number == group_number_of
    frame_number)

-- a frame of the first CAN identifier may go to a message of the second
unfoldable pub concerns : ℕ → ℕ → Bool
concerns frame_number number = number == frame_number || shares_group frame_number number

-- a data frame is touched if one of the CAN identifiers concerns it
unfoldable pub is_touched : List ℕ → Frame → Bool
is_touched numbers frame = is_data frame && list_any (concerns (number_of frame)) numbers

-- a line is touched by its frame
unfoldable pub line_touched : List ℕ → List ℕ → Bool
line_touched numbers line = option_map_or (is_touched numbers) (frame_of (body_of line)) false

-- a line is touched, by the CAN identifier of its data frame, if it has one
abbrev pub number_touched : List ℕ → Option ℕ → Bool
number_touched numbers number = option_map_or (λ other. list_any (concerns other) numbers) number false
