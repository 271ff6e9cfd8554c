-- What an edit leaves as it was.
use Rattle.std.specs.Prelude.{◌≡◌, ℕ, Bool, false, not, List, filter}
use Rattle.dbc_records.specs.Records.{Message}
use Rattle.dbc_records.specs.Databases.{Database}
use Rattle.can_entries.specs.Rows.{rows_of}
use Rattle.can_entries.specs.Groups.{format_row}
use Rattle.session_log.specs.Touched.{is_among}

-- the message has none of the CAN identifiers
abbrev pub is_elsewhere : List ℕ → Message → Bool
is_elsewhere numbers message = not (is_among numbers message.head.number)

-- The two databases have the same messages of other CAN identifiers, in the same order, and of each other CAN identifier
-- the same entries and the same entry of the frame format; the defaults and the definitions of attributes are the same, and
-- so are the nodes.
pub record SameElsewhere (numbers : List ℕ) (before after : Database) : Type 0 where
  pub messages : filter (is_elsewhere numbers) after.messages ≡ filter (is_elsewhere numbers) before.messages
  pub rows : (number : ℕ) → is_among numbers number ≡ false → rows_of number after ≡ rows_of number before
  pub formats : (number : ℕ) → is_among numbers number ≡ false → format_row number after ≡ format_row number before
  pub defaults : after.defaults ≡ before.defaults
  pub definitions : after.definitions ≡ before.definitions
  pub nodes : after.nodes ≡ before.nodes
