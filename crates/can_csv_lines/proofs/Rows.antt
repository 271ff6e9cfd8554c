-- Rows, each made of its first fields and the text of a signal.
use Rattle.std.proofs.Common.{◌≡◌, ℕ, Bool, true, false, if◌then◌else◌, List, [], ◌∷◌, ◌++◌, length, map, refl, sym, ap, ap₂, ◌∙◌}
use Rattle.std.proofs.Common.{append_assoc, append-nil}
use Rattle.std.specs.Prelude.{codes, decimal}
use Rattle.std.specs.List.{flat_map}
use Rattle.csv.specs.Writing.{field_text, fields_text, is_blank, row_text, default_writer}
use Rattle.can_bits.specs.Bits.{raw_value}
use Rattle.can_layout.specs.Decoders.{first_entry}
use Rattle.can_layout.specs.declared.row.Row.{Row}
use Rattle.can_layout.specs.declared.row.Reading.{Reading}
use Rattle.can_layout.specs.declared.row.Reading.TheVariants.{Refused, Read}
use Rattle.can_frames.specs.Frames.{Frame}
use Rattle.can_decode.specs.DecodedLines.{Target, is_refused, listed, shown_rows}
use Rattle.can_json_texts.specs.Texts.{text_of}
use Rattle.can_json_lines.specs.Signals.{value_text}
use Rattle.can_json_lines.specs.Lines.{time_of, interface_of}
use Rattle.can_csv_lines.specs.Rows.{given_fields, reading_fields, stated_fields, came_fields, signal_fields, signal_rows}
use Rattle.can_csv_lines.specs.Rows.{message_rows}
use Rattle.can_csv_lines.specs.Rows.{rows_text}
use Rattle.can_csv_lines.specs.inner.Prepared.{further_field, body_text, rest_text, stated_text, value_label, row_label}
use Rattle.can_csv_lines.specs.inner.Prepared.{after_label}
use Rattle.can_csv_lines.proofs.Fields.{one_field}
use Rattle.can_csv_lines.proofs.Pushing.{pushed_then}

-- time, interface and identifier
pub came_pushed : (old first second new time interface number : List ℕ) → new ≡ second ++ further_field number
    → second ≡ first ++ further_field interface → first ≡ old ++ field_text default_writer time
    → new ≡ old ++ body_text (time ∷ interface ∷ number ∷ [])
unfolding fields_text
came_pushed old first second new time interface number last middle begun =
    pushed_then old first new (field_text default_writer time) (further_field interface ++ further_field number)
    (pushed_then first second new (further_field interface) (further_field number) last middle) begun
    ∙ ap (λ (text : List ℕ). old ++ (field_text default_writer time
    ++ (44 ∷ (field_text default_writer interface ++ text)))) (sym (one_field number))

-- ---- a signal

-- the label of a signal, and what follows it
label_then : (name bytes : List ℕ) (reading : Reading)
    → (further_field name ++ value_label reading) ++ after_label bytes reading ≡ rest_text (name ∷ reading_fields bytes reading)
unfolding fields_text
label_then name bytes (Refused cause) =
    append-nil (further_field name ++ value_label (Refused cause))
    ∙ ap (λ (text : List ℕ). 44 ∷ text) (sym (append_assoc (field_text default_writer name)
    (fields_text default_writer (reading_fields bytes (Refused cause))) (codes "\n")))
label_then name bytes (Read decoder) =
    let raw = raw_value bytes decoder.signed decoder.bits in
    let value = field_text default_writer (value_text decoder raw) in
    let given = fields_text default_writer (given_fields decoder (first_entry raw decoder.entries)) in
    let field = field_text default_writer name in
    append_assoc (44 ∷ field) (codes ",") (value ++ (given ++ codes "\n"))
    ∙ ap (λ (text : List ℕ). 44 ∷ (field ++ (44 ∷ text))) (sym (append_assoc value given (codes "\n")))
    ∙ ap (λ (text : List ℕ). 44 ∷ text) (sym (append_assoc field (44 ∷ (value ++ given)) (codes "\n")))

label_text : (message bytes : List ℕ) (row : Row) → row_label message row ++ after_label bytes row.reading
    ≡ stated_text message bytes row
unfolding fields_text
label_text message bytes row =
    let field = field_text default_writer message in
    let rest = fields_text default_writer (row.name ∷ reading_fields bytes row.reading) in
    append_assoc (44 ∷ field) (further_field row.name ++ value_label row.reading) (after_label bytes row.reading)
    ∙ ap (λ (text : List ℕ). 44 ∷ (field ++ text)) (label_then row.name bytes row.reading)
    ∙ ap (λ (text : List ℕ). 44 ∷ text) (sym (append_assoc field rest (codes "\n")))

row_pushed : (old first second new came message bytes : List ℕ) (row : Row) → new ≡ second ++ after_label bytes row.reading
    → second ≡ first ++ row_label message row → first ≡ old ++ came → new ≡ old ++ (came ++ stated_text message bytes row)
row_pushed old first second new came message bytes row last middle begun =
    pushed_then old first new came (row_label message row ++ after_label bytes row.reading)
    (pushed_then first second new (row_label message row) (after_label bytes row.reading) last middle) begun
    ∙ ap (λ (text : List ℕ). old ++ (came ++ text)) (label_text message bytes row)

-- whether or not it is the first
pub signal_pushed : (some : Bool) (old first second new came message bytes : List ℕ) (row : Row)
    → new ≡ second ++ after_label bytes row.reading → second ≡ first ++ row_label message row → first ≡ old ++ came
    → new ≡ old ++ (if some then came ++ stated_text message bytes row else came ++ stated_text message bytes row)
signal_pushed true old first second new came message bytes row last middle begun =
    row_pushed old first second new came message bytes row last middle begun
signal_pushed false old first second new came message bytes row last middle begun =
    row_pushed old first second new came message bytes row last middle begun

-- ---- all signals

-- each is written as the first
listed_same : (text_of : Row → List ℕ) (rows : List Row) → listed text_of text_of rows ≡ flat_map text_of rows
listed_same text_of [] = refl
listed_same text_of (row ∷ rows) = refl

pub listed_rows : (old new : List ℕ) (text_of : Row → List ℕ) (rows : List Row) → new ≡ old ++ listed text_of text_of rows
    → new ≡ old ++ flat_map text_of rows
listed_rows old new text_of rows is = is ∙ ap (λ (text : List ℕ). old ++ text) (listed_same text_of rows)

-- a row in two parts
row_parts : (time interface number field : List ℕ) (more : List (List ℕ))
    → body_text (time ∷ interface ∷ number ∷ []) ++ rest_text (field ∷ more)
    ≡ row_text default_writer (time ∷ interface ∷ number ∷ field ∷ more)
unfolding fields_text is_blank
row_parts time interface number field more =
    let one = field_text default_writer time in
    let two = field_text default_writer interface in
    let three = field_text default_writer number in
    let rest = fields_text default_writer (field ∷ more) in
    append_assoc one (44 ∷ (two ++ (44 ∷ (three ++ [])))) (rest ++ codes "\n")
    ∙ ap (λ (text : List ℕ). one ++ (44 ∷ text))
    (append_assoc two (44 ∷ (three ++ [])) (rest ++ codes "\n")
    ∙ ap (λ (text : List ℕ). two ++ (44 ∷ (text ++ (rest ++ codes "\n")))) (append-nil three)
    ∙ ap (λ (text : List ℕ). two ++ (44 ∷ text)) (sym (append_assoc three rest (codes "\n")))
    ∙ sym (append_assoc two (44 ∷ (three ++ rest)) (codes "\n")))
    ∙ sym (append_assoc one (44 ∷ (two ++ (44 ∷ (three ++ rest)))) (codes "\n"))

all_parts : (body message bytes : List ℕ) (frame : Frame) (rows : List Row)
    → flat_map (λ row. body_text (came_fields body frame) ++ stated_text message bytes row) rows
    ≡ rows_text (map (signal_fields (came_fields body frame) message bytes) rows)
all_parts body message bytes frame [] = refl
all_parts body message bytes frame (row ∷ rows) =
    ap₂ (λ (one more : List ℕ). one ++ more)
    (row_parts (time_of body) (text_of (interface_of body)) (decimal frame.identifier) message
    (row.name ∷ reading_fields bytes row.reading))
    (all_parts body message bytes frame rows)

pub rows_pushed : (old new came payload body : List ℕ) (frame : Frame) (target : Target)
    → new ≡ old ++ flat_map (λ row. came ++ stated_text target.message.head.name payload row)
    (shown_rows payload target.plan target.plan.rows)
    → came ≡ body_text (came_fields body frame) → payload ≡ frame.bytes
    → is_refused target.short (length frame.bytes) target.plan.size ≡ false
    → new ≡ old ++ rows_text (message_rows (came_fields body frame) frame target)
rows_pushed old new came payload body frame target pushed made is_data takes =
    let name = target.message.head.name in
    let shown = shown_rows frame.bytes target.plan target.plan.rows in
    pushed
    ∙ ap (λ (payload : List ℕ). old ++ flat_map (λ row. came ++ stated_text name payload row)
    (shown_rows payload target.plan target.plan.rows)) is_data
    ∙ ap (λ (came : List ℕ). old ++ flat_map (λ row. came ++ stated_text name frame.bytes row) shown) made
    ∙ ap (λ (text : List ℕ). old ++ text) (all_parts body name frame.bytes frame shown)
    ∙ ap (λ (b : Bool). old ++ rows_text (if b then [] else signal_rows (came_fields body frame) frame target)) (sym takes)
