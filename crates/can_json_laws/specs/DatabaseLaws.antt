-- What holds of the objects of every database.
use Rattle.std.specs.Prelude.{◌≡◌, ℕ, ◌^◌, List, Option, Some, All, slice_get, IfSome}
use Rattle.json.specs.Json.{document, null, string}
use Rattle.can_json_texts.specs.Members.{json_text}
use Rattle.dbc_records.specs.Records.{Signal, Message, IsMessage}
use Rattle.dbc_records.specs.Databases.{Database, IsDatabase}
use Rattle.can_bits.specs.Bits.{Bit}
use Rattle.can_entries.specs.Rows.{rows_of, first_values, entries_of}
use Rattle.can_layout.specs.Plans.{plan_of}
use Rattle.can_layout.specs.Diagrams.{cause_word}
use Rattle.can_layout.specs.declared.row.Row.{Row}
use Rattle.can_layout.specs.declared.row.Reading.{Reading}
use Rattle.can_layout.specs.declared.row.Reading.TheVariants.{Refused, Read}
use Rattle.can_json_dump.specs.Messages.{positions_of, refused_json, signal_member, paired, message_json}
use Rattle.can_json_dump.specs.Dumps.{rest_json}

-- the text of a message's object is a document of JSON, and that object
abbrev pub MessagesParseBack : Type 0
MessagesParseBack = (database : Database) (message : Message) → IsDatabase database → IsMessage message
    → document (json_text (message_json database message)) ≡ Some (message_json database message)

-- and so is that of everything else
abbrev pub RestParsesBack : Type 0
RestParsesBack = (database : Database) → IsDatabase database → document (json_text (rest_json database)) ≡ Some (rest_json database)

-- a bit's position is the one at the index of its weight, as a power of two
abbrev pub IsAtItsPosition : List ℕ → Bit → Type 0
IsAtItsPosition positions bit = (k : ℕ) → bit.weight ≡ 2 ^ k → slice_get positions k ≡ Some bit.position

-- what is reported of a signal is what its plan decodes it by
abbrev pub TellsReading : Database → Message → Signal → Row → Reading → Type 0
TellsReading database message signal row (Refused cause) = refused_json row.reading ≡ string (cause_word cause)
TellsReading database message signal row (Read decoder) =
    (refused_json row.reading ≡ null)
    × All (IsAtItsPosition (positions_of row.field)) decoder.bits
    × (entries_of (first_values signal.name (rows_of message.head.number database)) ≡ decoder.entries)

-- The signal at an index is written with the row of the plan there, so its positions, its chain and the reason why it can't be
-- decoded are the plan's, and its value descriptions are those by which values are named.
abbrev pub SignalsAreAsPlanned : Type 0
SignalsAreAsPlanned = (database : Database) (message : Message) (index : ℕ) (signal : Signal)
    → slice_get message.signals index ≡ Some signal
    → (row : Row) × (slice_get (plan_of database message).rows index ≡ Some row)
    × (slice_get (paired (signal_member database message) message.signals (plan_of database message).rows) index
    ≡ Some (signal_member database message signal row))
    × TellsReading database message signal row row.reading
