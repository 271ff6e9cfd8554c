-- Texts that are prepared with plans.
use Rattle.std.specs.Prelude.{◌≡◌, ℕ, List, [], ◌∷◌, ◌++◌, codes, decimal}
use Rattle.json.specs.Json.{string}
use Rattle.json.specs.Print.{quoted}
use Rattle.can_json_texts.specs.Members.{Member, further_members, object_text}
use Rattle.dbc_records.specs.Records.{Message}
use Rattle.can_layout.specs.Diagrams.{cause_word}
use Rattle.can_layout.specs.declared.row.Row.{Row}
use Rattle.can_layout.specs.declared.row.Reading.{Reading}
use Rattle.can_layout.specs.declared.row.Reading.TheVariants.{Refused, Read}
use Rattle.can_bits.specs.Bits.{raw_value}
use Rattle.can_layout.specs.Decoders.{first_entry}
use Rattle.can_json_lines.specs.Signals.{unit_members, given_members, value_text}
use Rattle.can_json_lines.specs.Lines.{number_member}
use Rattle.can_json_lines.specs.declared.plan_texts.RowTexts.{RowTexts}

-- `{"value":`, or the whole object of a signal that can't be decoded
abbrev pub value_label : Reading → List ℕ
value_label (Refused cause) = object_text ((codes "refused", string (cause_word cause)) ∷ [])
value_label (Read decoder) = codes "{" ++ (quoted (codes "value") ++ codes ":")

-- `"Speed":{"value":`
abbrev pub row_label : Row → List ℕ
row_label row = quoted row.name ++ (codes ":" ++ value_label row.reading)

-- the same after another signal
abbrev pub next_label : Row → List ℕ
next_label row = codes "," ++ row_label row

-- `,"unit":"km/h"}`
abbrev pub row_tail : Reading → List ℕ
row_tail (Refused cause) = []
row_tail (Read decoder) = further_members (unit_members decoder.unit) ++ codes "}"

-- what is between the label of a signal and the next signal
abbrev pub after_label : List ℕ → Reading → List ℕ
after_label bytes (Refused cause) = []
after_label bytes (Read decoder) =
    let raw = raw_value bytes decoder.signed decoder.bits in
    value_text decoder raw ++ (further_members (given_members decoder (first_entry raw decoder.entries)) ++ codes "}")

abbrev pub row_texts : Row → RowTexts
row_texts row = record { label = row_label row; next = next_label row; tail = row_tail row.reading }

-- `,"message":"CCVS","number":2566844672`
abbrev pub message_text : Message → List ℕ
message_text message = further_members ((codes "message", string message.head.name)
    ∷ number_member (codes "number") message.head.number ∷ [])
