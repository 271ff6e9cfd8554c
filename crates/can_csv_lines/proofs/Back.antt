-- The rows of a log read back from their text.
use Rattle.std.proofs.Common.{◌≡◌, ℕ, zero, suc, ◌+◌, ◌<◌, ◌≤◌, Bool, true, false, List, [], ◌∷◌}
use Rattle.std.proofs.Common.{◌++◌, length, map, Option, Some, None, refl, sym, ap, ap₂, ◌∙◌, arith, if◌then◌else◌}
use Rattle.std.specs.List.{flat_map, AllByRecursion}
use Rattle.std.proofs.lemmas.List.{length-append}
use Rattle.csv.specs.Machine.{next_record}
use Rattle.csv.specs.Reading.{default_config, records, records_from}
use Rattle.csv.specs.Writing.{default_writer, row_body, row_text, is_blank, read_back}
use Rattle.csv.specs.declared.parser.State.TheVariants as st
use Rattle.csv.proofs.RoundTrip.{read-write}
use Rattle.std.proofs.lemmas.Grind.{flat_map-append}
use Rattle.can_layout.specs.declared.row.Row.{Row}
use Rattle.can_frames.specs.Frames.{Frame, is_data, body_of, frame_of}
use Rattle.can_decode.specs.DecodedLines.{Bus, Target, chosen_target, is_refused, shown_rows}
use Rattle.can_csv_lines.specs.Rows.{came_fields, signal_fields, signal_rows, data_rows, rows_by, line_rows, csv_line, header}
use Rattle.can_csv_lines.specs.Laws.{RowsReadBack}

-- at the end of a text there is no further record
ended : (n : ℕ) → records_from default_config n st.StartRecord [] ≡ []
unfolding records_from next_record
ended zero = refl
ended (suc n) = refl

abbrev rows_text : List (List (List ℕ)) → List ℕ
rows_text rows = flat_map (row_text default_writer) rows

rows_back : (rows : List (List (List ℕ))) (n : ℕ) → length rows ≤ n
    → records_from default_config n st.StartRecord (rows_text rows) ≡ map read_back rows
unfolding records_from
rows_back [] n enough = ended n
rows_back (row ∷ rows) zero enough = absurd (omega (arith, enough))
rows_back (row ∷ rows) (suc n) enough =
    rw (read-write row (rows_text rows)) (ap (λ (more : List (List (List ℕ))). read_back row ∷ more)
    (rows_back rows n (omega (arith, enough))))

-- a row is at least one byte
row_some : (row : List (List ℕ)) → 0 < length (row_text default_writer row)
row_some row =
    let blank : List ℕ = if is_blank default_writer row then 34 ∷ 34 ∷ [] else [] in
    omega (arith, length-append (row_body default_writer row) (blank ++ 10 ∷ []), length-append blank (10 ∷ []))

enough : (rows : List (List (List ℕ))) → length rows ≤ length (rows_text rows)
enough [] = omega arith
enough (row ∷ rows) =
    omega (arith, row_some row, enough rows, length-append (row_text default_writer row) (rows_text rows))

same : (rows : List (List (List ℕ))) → AllByRecursion (λ (row : List (List ℕ)). 0 < length row) rows → map read_back rows ≡ rows
same [] all = refl
same ([] ∷ rows) all = absurd (omega (arith, all.0))
same ((field ∷ row) ∷ rows) all = ap (λ (more : List (List (List ℕ))). (field ∷ row) ∷ more) (same rows all.1)

all_read_back : (rows : List (List (List ℕ))) → AllByRecursion (λ (row : List (List ℕ)). 0 < length row) rows
    → records default_config (rows_text rows) ≡ rows
all_read_back rows all =
    rows_back rows (length (rows_text rows) + 1) (omega (arith, enough rows)) ∙ same rows all

-- ---- the rows of a log

abbrev HaveFields : List (List (List ℕ)) → Type 0
HaveFields rows = AllByRecursion (λ (row : List (List ℕ)). 0 < length row) rows

both_have : (first second : List (List (List ℕ))) → HaveFields first → HaveFields second → HaveFields (first ++ second)
both_have [] second one other = other
both_have (row ∷ first) second one other = (one.0, both_have first second one.1 other)

signals_have : (body message bytes : List ℕ) (frame : Frame) (rows : List Row)
    → HaveFields (map (signal_fields (came_fields body frame) message bytes) rows)
signals_have body message bytes frame [] = tt
signals_have body message bytes frame (row ∷ rows) = (omega arith, signals_have body message bytes frame rows)

refused_or : (refused : Bool) (body : List ℕ) (frame : Frame) (target : Target)
    → HaveFields (if refused then [] else signal_rows (came_fields body frame) frame target)
refused_or true body frame target = tt
refused_or false body frame target =
    signals_have body target.message.head.name frame.bytes frame (shown_rows frame.bytes target.plan target.plan.rows)

data_have : (body : List ℕ) (frame : Frame) (target : Option Target) → HaveFields (data_rows (came_fields body frame) frame target)
data_have body frame None = tt
data_have body frame (Some target) =
    refused_or (is_refused target.short (length frame.bytes) target.plan.size) body frame target

data_or : (test : Bool) (body : List ℕ) (frame : Frame) (target : Option Target)
    → HaveFields (if test then data_rows (came_fields body frame) frame target else [])
data_or true body frame target = data_have body frame target
data_or false body frame target = tt

line_by : (bus : Bus) (body : List ℕ) (frame : Option Frame) → HaveFields (rows_by bus body frame)
line_by bus body None = tt
line_by bus body (Some frame) = data_or (is_data frame) body frame (chosen_target bus.short bus.database frame)

line_has : (bus : Bus) (line : List ℕ) → HaveFields (line_rows bus line)
unfolding line_rows
line_has bus line = line_by bus (body_of line) (frame_of (body_of line))

lines_have : (bus : Bus) (lines : List (List ℕ)) → HaveFields (flat_map (line_rows bus) lines)
lines_have bus [] = tt
lines_have bus (line ∷ lines) =
    both_have (line_rows bus line) (flat_map (line_rows bus) lines) (line_has bus line) (lines_have bus lines)

lines_text : (bus : Bus) (lines : List (List ℕ)) → flat_map (csv_line bus) lines ≡ rows_text (flat_map (line_rows bus) lines)
lines_text bus [] = refl
lines_text bus (line ∷ lines) =
    ap (λ (text : List ℕ). csv_line bus line ++ text) (lines_text bus lines)
    ∙ sym (flat_map-append (row_text default_writer) (line_rows bus line) (flat_map (line_rows bus) lines))

pub rows_read_back : RowsReadBack
rows_read_back bus lines =
    ap (λ (text : List ℕ). records default_config (row_text default_writer header ++ text)) (lines_text bus lines)
    ∙ all_read_back (header ∷ flat_map (line_rows bus) lines) (omega arith, lines_have bus lines)
