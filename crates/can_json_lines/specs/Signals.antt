-- The signals in data, as JSON. Source: the DBC file format, "Signal Definitions" (physical value, unit) and "Signal Value
-- Descriptions"; RFC 8259. That values are exact and never have an exponent is the profile of candesk.
use Rattle.std.specs.Prelude.{ℕ, ℤ, List, [], ◌∷◌, map, Option, Some, None, codes}
use Rattle.json.specs.Json.{Json, string, number}
use Rattle.can_json_texts.specs.Members.{Member, object_of, text_members}
use Rattle.dbc_records.specs.Records.{Entry}
use Rattle.can_bits.specs.Bits.{raw_value}
use Rattle.can_layout.specs.Decoders.{Decoder, first_entry}
use Rattle.can_layout.specs.Plans.{Plan}
use Rattle.can_layout.specs.Diagrams.{cause_word}
use Rattle.can_layout.specs.declared.row.Row.{Row}
use Rattle.can_layout.specs.declared.row.Reading.{Reading}
use Rattle.can_layout.specs.declared.row.Reading.TheVariants.{Refused, Read}
use Rattle.can_decode.specs.Values.{scaled, scaled_text}
use Rattle.can_decode.specs.DecodedLines.{shown_rows}

-- ---- values

-- the decimal of a raw value
abbrev pub value_text : Decoder → ℤ → List ℕ
value_text decoder raw = scaled_text (scaled decoder.scale raw) decoder.scale.places

-- `"unit":"km/h"`, if there is a unit
abbrev pub unit_members : List ℕ → List Member
unit_members [] = []
unit_members (b ∷ unit) = text_members (codes "unit") (b ∷ unit)

-- the name of a raw value if it has one, otherwise its unit
abbrev pub given_members : Decoder → Option Entry → List Member
given_members decoder None = unit_members decoder.unit
given_members decoder (Some entry) = text_members (codes "name") entry.text

-- `"value":20.5,"unit":"km/h"`
abbrev pub value_members : Decoder → ℤ → List Member
value_members decoder raw = (codes "value", number (value_text decoder raw))
    ∷ given_members decoder (first_entry raw decoder.entries)

-- the value in data, or why there is none
abbrev pub reading_members : List ℕ → Reading → List Member
reading_members bytes (Refused cause) = (codes "refused", string (cause_word cause)) ∷ []
reading_members bytes (Read decoder) = value_members decoder (raw_value bytes decoder.signed decoder.bits)

-- ---- signals

-- `"Speed":{"value":20.5,"unit":"km/h"}`
abbrev pub signal_member : List ℕ → Row → Member
signal_member bytes row = (row.name, object_of (reading_members bytes row.reading))

-- the signals that are shown, by their names and in order
abbrev pub signal_members : List ℕ → Plan → List Member
signal_members bytes plan = map (signal_member bytes) (shown_rows bytes plan plan.rows)
