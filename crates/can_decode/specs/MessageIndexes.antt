-- What a cache has of a choice, and what an index of the messages has for each CAN identifier and for each parameter group.
use Rattle.std.specs.Prelude.{◌≡◌, ℕ, List, Option, position}
use Rattle.std.specs.Option.{option_map}
use Rattle.dbc_records.specs.Records.{Message}
use Rattle.dbc_records.specs.Databases.{Database}
use Rattle.can_decode.specs.Choices.{has_number, in_group, choice_at, choice_of}
use Rattle.can_decode.specs.inner.FirstChoices.{first_choice}
use Rattle.can_decode.specs.declared.message_search.Choice.{Choice}
use Rattle.can_decode.specs.declared.message_index.MessageIndex.{MessageIndex}
use Rattle.can_decode.specs.declared.cached_search.Entry.{Entry}

-- the entry records what its CAN identifier goes to
abbrev pub IsCachedChoice : Database → Entry → Type 0
IsCachedChoice database entry = entry.choice ≡ choice_of database entry.number

-- the choice of the first of these messages, a prefix of those in the database, that has a CAN identifier
abbrev pub first_numbered : Database → List Message → ℕ → Option Choice
first_numbered database messages number = option_map (choice_at database) (position (has_number number) messages)

-- the choice of the first of them that is of a parameter group
abbrev pub first_of_group : Database → List Message → ℕ → Option Choice
first_of_group database messages group = option_map (choice_at database) (position (in_group database group) messages)

-- the index has the first of these messages for each CAN identifier, and for each parameter group
pub record AreChoices (database : Database) (messages : List Message) (exact grouped : List (ℕ × Choice)) : Type 0 where
  pub of_numbers : (number : ℕ) → first_choice number exact ≡ first_numbered database messages number
  pub of_groups : (group : ℕ) → first_choice group grouped ≡ first_of_group database messages group

-- the index has the first message of each CAN identifier, and of each parameter group
abbrev pub IsIndexOf : Database → MessageIndex → Type 0
IsIndexOf database index = AreChoices database database.messages index.exact index.grouped
