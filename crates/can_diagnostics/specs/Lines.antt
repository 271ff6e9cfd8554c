-- The line of a diagnostic: its number, its name, and what it is about. Source: the profile of candesk; an entry is named as the
-- DBC file format prints it, up to and including its key.
use Rattle.std.specs.Prelude.{ℕ, ◌==◌, ◌||◌, List, [], ◌∷◌, ◌++◌, map, codes, decimal, if◌then◌else◌}
use Rattle.std.specs.List.{flat_map}
use Rattle.std.specs.Fmt.{signed_decimal}
use Rattle.dbc_values.specs.Lexical.{line_feed, carriage_return, space}
use Rattle.dbc_records.specs.Layout.{Layout, layout_text}
use Rattle.can_diagnostics.specs.Codes.{code_number, code_word}
use Rattle.dbc_records.specs.EntryKeys.{key_layout}
use Rattle.can_diagnostics.specs.declared.code.Code.{Code}
use Rattle.dbc_records.specs.declared.entry_key.EntryKey.{EntryKey}
use Rattle.can_diagnostics.specs.declared.subject.Subject.{Subject}
use Rattle.can_diagnostics.specs.declared.subject.Subject.TheVariants as subjects
use Rattle.can_diagnostics.specs.declared.diagnostic.Diagnostic.{Diagnostic}

-- ---- entries

abbrev pub shown_byte : ℕ → ℕ
shown_byte b = if (b == carriage_return) || (b == line_feed) then space else b

-- the text on one line: a blank for each CR and each LF
unfoldable pub blanked : List ℕ → List ℕ
blanked text = map shown_byte text

unfoldable pub shown : Layout → List ℕ
shown layout = blanked (layout_text layout)

-- what is printed of an entry up to and including its key, on one line
unfoldable pub row_text : EntryKey → List ℕ
row_text key = shown (key_layout key)

-- ---- lines

-- the pieces, one after another
abbrev pub join : List (List ℕ) → List ℕ
join pieces = flat_map (λ piece. piece) pieces

unfoldable pub subject_text : Subject → List ℕ
subject_text (subjects.Message number message) = join (decimal number ∷ codes " " ∷ message ∷ [])
subject_text (subjects.Sender number message node) = join (decimal number ∷ codes " " ∷ message ∷ codes " " ∷ node ∷ [])
subject_text (subjects.Signal number message signal) = join (decimal number ∷ codes " " ∷ message ∷ codes "." ∷ signal ∷ [])
subject_text (subjects.Pair number message first second) = join (decimal number ∷ codes " " ∷ message ∷ codes "." ∷ first
    ∷ codes " " ∷ message ∷ codes "." ∷ second ∷ [])
subject_text (subjects.Receiver number message signal node) = join (decimal number ∷ codes " " ∷ message ∷ codes "." ∷ signal
    ∷ codes " " ∷ node ∷ [])
subject_text (subjects.Value number message signal value) = join (decimal number ∷ codes " " ∷ message ∷ codes "." ∷ signal
    ∷ codes " " ∷ signed_decimal value ∷ [])
subject_text (subjects.Row key) = row_text key

unfoldable pub code_text : Code → List ℕ
code_text code = join (decimal (code_number code) ∷ codes " " ∷ code_word code ∷ codes " " ∷ [])

unfoldable pub line_text : Diagnostic → List ℕ
line_text diagnostic = code_text diagnostic.code ++ subject_text diagnostic.subject
