-- The choice of a line's frame is that of the index that the frame goes to.
use Rattle.std.proofs.Common.{◌≡◌, ℕ, Bool, List, true, false, Option, Some, None, if◌then◌else◌, refl}
use Rattle.std.specs.Option.{option_map, option_and_then}
use Rattle.dbc_records.specs.Databases.{Database}
use Rattle.can_frames.specs.Frames.{Frame, body_of, frame_of, is_data, number_of}
use Rattle.can_decode.specs.Choices.{index_of_number, chosen_index, choice_at, choice_of, frame_choice, line_index, line_choice}

choice_if : (database : Database) (is : Bool) (index : Option ℕ) → (if is then option_map (choice_at database) index else None)
    ≡ option_map (choice_at database) (if is then index else None)
choice_if database true index = refl
choice_if database false index = refl

choice_by : (database : Database) (frame : Option Frame) → option_and_then (frame_choice database) frame
    ≡ option_map (choice_at database) (option_and_then (chosen_index database) frame)
unfolding frame_choice choice_of chosen_index
choice_by database None = refl
choice_by database (Some frame) = choice_if database (is_data frame) (index_of_number database (number_of frame))

pub line_choice_by : (database : Database) (line : List ℕ) → line_choice database line
    ≡ option_map (choice_at database) (line_index database line)
line_choice_by database line = choice_by database (frame_of (body_of line))
