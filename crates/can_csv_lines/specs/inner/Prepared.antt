-- Texts that are prepared with plans, and the pieces of a row.
use Rattle.std.specs.Prelude.{◌==◌, ℕ, List, [], ◌∷◌, ◌++◌, codes, if◌then◌else◌}
use Rattle.csv.specs.Writing.{default_writer, field_text, fields_text, row_body}
use Rattle.can_json_texts.specs.Texts.{text_of}
use Rattle.can_bits.specs.Bits.{raw_value}
use Rattle.can_layout.specs.Decoders.{first_entry}
use Rattle.can_layout.specs.Plans.{Plan}
use Rattle.can_layout.specs.Diagrams.{cause_word}
use Rattle.can_layout.specs.declared.row.Row.{Row}
use Rattle.can_layout.specs.declared.row.Reading.{Reading}
use Rattle.can_layout.specs.declared.row.Reading.TheVariants.{Refused, Read}
use Rattle.can_json_lines.specs.Signals.{value_text}
use Rattle.can_csv_lines.specs.Rows.{given_fields, stated_fields}
use Rattle.can_csv_lines.specs.declared.plan_texts.RowTexts.{RowTexts}

-- ---- fields

-- a quote is doubled
abbrev pub doubled : ℕ → List ℕ
doubled b = if b == 34 then 34 ∷ 34 ∷ [] else b ∷ []

-- a field after others
abbrev pub further_field : List ℕ → List ℕ
further_field field = codes "," ++ field_text default_writer field

-- the fields of a row, without its end
abbrev pub body_text : List (List ℕ) → List ℕ
body_text fields = row_body default_writer fields

-- fields after others, and the end of the row
abbrev pub rest_text : List (List ℕ) → List ℕ
rest_text fields = fields_text default_writer fields ++ codes "\n"

-- what is in the row of a signal after time, interface and identifier
abbrev pub stated_text : List ℕ → List ℕ → Row → List ℕ
stated_text message bytes row = rest_text (stated_fields message bytes row)

-- ---- signals

-- `,`, or the whole text of a signal that can't be decoded
abbrev pub value_label : Reading → List ℕ
value_label (Refused cause) = rest_text ((codes "?" ++ cause_word cause) ∷ [] ∷ [] ∷ [])
value_label (Read decoder) = codes ","

-- `,CCVS,Speed,`
abbrev pub row_label : List ℕ → Row → List ℕ
row_label message row = further_field message ++ (further_field row.name ++ value_label row.reading)

-- `,km/h,` and the end of the row
abbrev pub row_tail : Reading → List ℕ
row_tail (Refused cause) = []
row_tail (Read decoder) = rest_text (text_of decoder.unit ∷ [] ∷ [])

-- what is between the label of a signal and the next row
abbrev pub after_label : List ℕ → Reading → List ℕ
after_label bytes (Refused cause) = []
after_label bytes (Read decoder) =
    let raw = raw_value bytes decoder.signed decoder.bits in
    field_text default_writer (value_text decoder raw) ++ rest_text (given_fields decoder (first_entry raw decoder.entries))

-- what is prepared of a signal, by its message's name
abbrev pub row_texts : List ℕ → Row → RowTexts
row_texts message row = record { label = row_label message row; tail = row_tail row.reading }

-- the signals of a message, after the first fields of each of their rows
pub record SignalRows : Type 0 where
  pub came : List ℕ
  pub message : List ℕ
  pub plan : Plan
