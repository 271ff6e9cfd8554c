-- What holds of the object of every line.
use Rattle.std.specs.Prelude.{◌≡◌, ℕ, List, Some, All, codes, ⊤}
use Rattle.hex.specs.Hex.{IsBytes}
use Rattle.json.specs.Json.{document}
use Rattle.can_json_texts.specs.Members.{members_of}
use Rattle.dbc_records.specs.Records.{Message}
use Rattle.dbc_records.specs.Databases.{Database, IsDatabase}
use Rattle.can_bits.specs.Bits.{raw_value}
use Rattle.can_layout.specs.Plans.{plan_of}
use Rattle.can_layout.specs.declared.row.Reading.{Reading}
use Rattle.can_layout.specs.declared.row.Reading.TheVariants.{Refused, Read}
use Rattle.can_frames.specs.Frames.{Frame, body_of, frame_of}
use Rattle.can_decode.specs.DecodedLines.{Bus, frame_text}
use Rattle.can_decode.specs.Values.{scaled}
use Rattle.can_decode.specs.ScaledTexts.{IsScaledText}
use Rattle.can_json_lines.specs.Signals.{reading_members}
use Rattle.can_json_lines.specs.Lines.{json_line, line_json, line_members}
use Rattle.can_json_laws.specs.Keys.{HasUniqueKeys}
use Rattle.can_json_laws.specs.OneLine.{IsOneLine}
use Rattle.can_json_laws.specs.Stated.{stated_by, text_at}

-- the text of a line's object is a document of JSON, and that object
abbrev pub ParsesBack : Type 0
ParsesBack = (bus : Bus) (line : List ℕ) → IsDatabase bus.database → document (json_line bus line) ≡ Some (line_json bus line)

abbrev pub KeysAreUnique : Type 0
KeysAreUnique = (bus : Bus) (line : List ℕ) → IsDatabase bus.database → HasUniqueKeys (line_json bus line)

-- the texts of units and value descriptions are bytes
pub record ShowsBytes (database : Database) : Type 0 where
  pub units : All (λ message. All (λ signal. IsBytes signal.unit) message.signals) database.messages
  pub descriptions : All (λ row. All (λ entry. IsBytes entry.text) row.entries) database.values

-- what `decode` writes after ` :: ` follows from the object
abbrev pub ReportsNoLess : Type 0
ReportsNoLess = (bus : Bus) (line : List ℕ) (frame : Frame) → IsDatabase bus.database → ShowsBytes bus.database
    → frame_of (body_of line) ≡ Some frame
    → stated_by (members_of (line_members bus line)) ≡ frame_text bus.short bus.database frame

-- the text of a line's object is UTF-8, and has no control byte, so it is one line
abbrev pub ObjectsAreLines : Type 0
ObjectsAreLines = (bus : Bus) (line : List ℕ) → IsDatabase bus.database → ShowsBytes bus.database → IsBytes line
    → IsOneLine (json_line bus line)

-- the number that is reported of a value is the value itself, with nothing superfluous in it
abbrev pub IsExact : List ℕ → Reading → Type 0
IsExact bytes (Refused cause) = ⊤
IsExact bytes (Read decoder) =
    IsScaledText (scaled decoder.scale (raw_value bytes decoder.signed decoder.bits)) decoder.scale.places
    (text_at (codes "value") (members_of (reading_members bytes (Read decoder))))

abbrev pub ValuesAreExact : Type 0
ValuesAreExact = (database : Database) (message : Message) (bytes : List ℕ)
    → All (λ row. IsExact bytes row.reading) (plan_of database message).rows
