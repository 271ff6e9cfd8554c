-- What the frame of a line goes to is a message of the database.
use Rattle.std.proofs.Common.{◌<◌, ℕ, Bool, true, false, List, length, inl, inr}
use Rattle.std.specs.Prelude.{Option, Some, None, IfSome, position, nat_lt, if◌then◌else◌}
use Rattle.std.specs.List.{position_or_len}
use Rattle.std.specs.Option.{option_or, option_map, option_and_then}
use Rattle.std.proofs.lemmas.Bool.{cases_Bool, ltb-true}
use Rattle.dbc_records.specs.Records.{Message}
use Rattle.dbc_records.specs.Databases.{Database}
use Rattle.can_frames.specs.Frames.{Frame, body_of, frame_of, is_data, number_of}
use Rattle.can_entries.specs.Groups.{is_extended, group_number_of}
use Rattle.can_decode.specs.Choices.{has_number, in_group, exact_index, group_index, index_of_number, choice_at, choice_of}
use Rattle.can_decode.specs.Choices.{chosen_index, frame_choice, line_index, line_choice}
use Rattle.can_decode.specs.declared.message_search.Choice.{Choice}

abbrev Within : Database → Option ℕ → Type 0
Within database index = IfSome index (λ at. at < length database.messages)

position_within : (database : Database) (p : Message → Bool) → Within database (position p database.messages)
position_within database p =
    elim (cases_Bool (nat_lt (position_or_len p database.messages) (length database.messages))) [
      | inl t ↦ rw t (ltb-true _ _ t)
      | inr f ↦ rw f tt
    ]

either_within : (database : Database) (a b : Option ℕ) → Within database a → Within database b → Within database (option_or a b)
either_within database None b first second = second
either_within database (Some at) b first second = first

if_within : (database : Database) (test : Bool) (a : Option ℕ) → Within database a → Within database (if test then a else None)
if_within database true a inside = inside
if_within database false a inside = tt

number_within : (database : Database) (number : ℕ) → Within database (index_of_number database number)
unfolding index_of_number
number_within database number =
    either_within database (exact_index database number) (group_index database number)
    (position_within database (has_number number))
    (if_within database (is_extended number) _ (position_within database (in_group database (group_number_of number))))

-- the index of a choice is that of a message
abbrev HasWithin : Database → Option Choice → Type 0
HasWithin database choice = IfSome choice (λ one. one.index < length database.messages)

made_within : (database : Database) (index : Option ℕ) → Within database index
    → HasWithin database (option_map (choice_at database) index)
made_within database None inside = tt
made_within database (Some at) inside = inside

choice_within : (database : Database) (number : ℕ) → HasWithin database (choice_of database number)
unfolding choice_of
choice_within database number = made_within database (index_of_number database number) (number_within database number)

if_choice_within : (database : Database) (test : Bool) (a : Option Choice) → HasWithin database a
    → HasWithin database (if test then a else None)
if_choice_within database true a inside = inside
if_choice_within database false a inside = tt

frame_choice_within : (database : Database) (frame : Option Frame)
    → HasWithin database (option_and_then (frame_choice database) frame)
unfolding frame_choice
frame_choice_within database None = tt
frame_choice_within database (Some frame) = if_choice_within database (is_data frame) _ (choice_within database (number_of frame))

pub choice_is_within : (database : Database) (line : List ℕ) → IfSome (line_choice database line)
    (λ one. one.index < length database.messages)
choice_is_within database line = frame_choice_within database (frame_of (body_of line))

frame_index_within : (database : Database) (frame : Option Frame) → Within database (option_and_then (chosen_index database) frame)
unfolding chosen_index
frame_index_within database None = tt
frame_index_within database (Some frame) = if_within database (is_data frame) _ (number_within database (number_of frame))

pub index_is_within : (database : Database) (line : List ℕ) → IfSome (line_index database line)
    (λ index. index < length database.messages)
index_is_within database line = frame_index_within database (frame_of (body_of line))
