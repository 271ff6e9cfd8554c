-- The lines of the log by the CAN identifiers and by the parameter groups of their data frames.
-- Source: SAE J1939-21, "Parameter Group Numbers", for which frames belong to one group.
use Rattle.std.specs.Prelude.{◌≡◌, ◌<◌, ◌≤◌, ℕ, Bool, true, false, not, ◌&&◌, ◌==◌, List, [], ◌∷◌, ◌++◌, All, length, count_by}
use Rattle.std.specs.Prelude.{slice_get, map, drop, nat_eq, if◌then◌else◌}
use Rattle.std.specs.List.{list_any, slice_index_or}
use Rattle.std.specs.Option.{option_map_or}
use Rattle.indexmap.specs.IndexMap.{IndexMap, get}
use Rattle.can_entries.specs.Groups.{is_extended, group_number_of}
use Rattle.can_decode.specs.Choices.{data_number}
use Rattle.session_log.specs.Touched.{may_have_group, line_touched}
use Rattle.session_log.specs.declared.log_index.LogIndex.{LogIndex}
use Rattle.session_log.specs.declared.keyed_serials.Serials.{Serials}
use Rattle.session_log.specs.Positions.{positions_from, position_from}

-- ---- what lines are found by

-- the line has a data frame of the CAN identifier
abbrev pub has_number : ℕ → List ℕ → Bool
has_number number line = option_map_or (λ other. number == other) (data_number line) false

-- it has one with an extended (29-bit) identifier, of the parameter group
abbrev pub has_group : ℕ → List ℕ → Bool
has_group group line = option_map_or (λ number. is_extended number && group == group_number_of number) (data_number line) false

-- ---- the index

-- the serial numbers, in order
abbrev pub numbers_in : Serials → List ℕ
numbers_in serials = serials.first ∷ serials.later.items

-- those for a key
abbrev pub serials_at : {S : Type 0} → ℕ → IndexMap ℕ Serials S → List ℕ
serials_at key serials = option_map_or numbers_in (get nat_eq serials key) []

-- the indexes of the lines for a key, where the first line has the serial number `first`
abbrev pub positions_at : {S : Type 0} → ℕ → ℕ → IndexMap ℕ Serials S → List ℕ
positions_at first key serials = map (position_from first) (serials_at key serials)

-- each CAN identifier has the indexes of the lines with data frames of it, in order of arrival, and each parameter group those of
-- the extended (29-bit) ones of that group
pub record IsIndexed (first : ℕ) (lines : List (List ℕ)) (index : LogIndex) : Type 0 where
  pub by_number : (number : ℕ) → positions_at first number index.numbers ≡ positions_from (has_number number) 0 lines
  pub by_group : (group : ℕ) → positions_at first group index.groups ≡ positions_from (has_group group) 0 lines

-- the serial numbers for the key of a CAN identifier that an edit has: its parameter group, if a message of it may have one,
-- otherwise the CAN identifier
abbrev pub serials_of : ℕ → LogIndex → List ℕ
serials_of number index = if may_have_group number then serials_at (group_number_of number) index.groups else serials_at number
    index.numbers

-- ---- one more line

pub record SameSerials (before after : LogIndex) : Type 0 where
  pub by_number : (number : ℕ) → serials_at number after.numbers ≡ serials_at number before.numbers
  pub by_group : (group : ℕ) → serials_at group after.groups ≡ serials_at group before.groups

-- the serial number of a line with a data frame of the CAN identifier comes after the others
pub record Puts (number serial : ℕ) (before after : LogIndex) : Type 0 where
  pub by_number : (other : ℕ) → serials_at other after.numbers ≡ serials_at other before.numbers ++ (if other == number then serial
      ∷ [] else [])
  pub by_group : (group : ℕ) → serials_at group after.groups ≡ serials_at group before.groups
      ++ (if is_extended number && group == group_number_of number then serial ∷ [] else [])

-- ---- one less

-- the first serial number for the CAN identifier of a data frame, and for its parameter group, is gone
pub record Drops (number : ℕ) (before after : LogIndex) : Type 0 where
  pub by_number : (other : ℕ) → serials_at other after.numbers ≡ (if other == number then drop 1 (serials_at other before.numbers)
      else serials_at other before.numbers)
  pub by_group : (group : ℕ) → serials_at group after.groups ≡ (if is_extended number && group == group_number_of number then drop 1
      (serials_at group before.groups) else serials_at group before.groups)

-- ---- the lines that CAN identifiers touch

-- the line at the index is touched by none of the CAN identifiers
abbrev pub is_untouched_at : List ℕ → List (List ℕ) → ℕ → Bool
is_untouched_at numbers lines position = option_map_or (λ line. not (line_touched numbers line)) (slice_get lines position) false

-- these are indexes of lines, including those of all lines that the CAN identifiers touch, and there are no more of
-- them than such lines
pub record Covers (numbers : List ℕ) (lines : List (List ℕ)) (positions : List ℕ) : Type 0 where
  pub within : All (λ position. position < length lines) positions
  pub touched : (k : ℕ) (d : List ℕ) → k < length lines → line_touched numbers (slice_index_or lines k d) ≡ true
      → list_any (λ position. position == k) positions ≡ true
  pub few : length positions ≤ count_by (line_touched numbers) lines
