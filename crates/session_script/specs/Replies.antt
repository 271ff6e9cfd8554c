-- What is done and replied for a line of a script.
use Rattle.std.specs.Prelude.{◌≡◌, ◌⊎◌, ℕ, List, [], ◌∷◌, ◌++◌, map, Option, Some, None, Result, Ok, Err, slice_get, codes, decimal}
use Rattle.std.specs.Prelude.{IsTrue}
use Rattle.std.specs.List.{flat_map}
use Rattle.std.specs.Option.{option_map_or}
use Rattle.dbc_records.specs.Databases.{Database}
use Rattle.dbc_records.specs.CanonicalText.{canonical_text}
use Rattle.can_layout.specs.Diagrams.{picture_of}
use Rattle.can_diagnostics.specs.Lines.{line_text}
use Rattle.can_check.specs.AllFaults.{all_faults}
use Rattle.can_decode.specs.DecodedLines.{decoded_line}
use Rattle.can_frames.specs.LogLines.{body_of}
use Rattle.dbc_edits.specs.declared.refusal.Refusal.{Refusal}
use Rattle.dbc_edits.specs.declared.refusal.Refusal.TheVariants as refusals
use Rattle.dbc_edits.specs.Refusals.{refusal_number, refusal_word}
use Rattle.can_session.specs.States.{State, Applies, Adds}
use Rattle.session_script.specs.Words.{word_of, verb_of}
use Rattle.session_script.specs.Commands.{Command, Log, Change, ShowDiagnostics, ShowLayout, ShowLines, Print, Means}
use Rattle.session_script.specs.Commands.{takes_memory}

-- ---- texts

abbrev pub ok_text : List ℕ
ok_text = codes "ok\n"

abbrev pub bad_text : List ℕ
bad_text = codes "bad command\n"

-- `refused 22 NoSignal`
unfoldable pub refused_text : Refusal → List ℕ
refused_text refusal = flat_map (λ piece. piece) (codes "refused " ∷ decimal (refusal_number refusal) ∷ codes " "
    ∷ refusal_word refusal ∷ codes "\n" ∷ [])

abbrev pub answer_text : Result (Unit {0}) Refusal → List ℕ
answer_text (Ok done) = ok_text
answer_text (Err refusal) = refused_text refusal

-- a line for each diagnostic, and `ok`
unfoldable pub diagnostics_text : Database → List ℕ
diagnostics_text database = flat_map (λ diagnostic. line_text diagnostic ++ codes "\n") (all_faults database) ++ ok_text

-- the diagram and `ok`, if a message is at the index
unfoldable pub layout_text : Database → ℕ → List ℕ
layout_text database index = option_map_or (λ message. picture_of database message ++ ok_text) (slice_get database.messages index)
    (refused_text refusals.NoMessage)

-- the decoded text of each line
abbrev pub decoded_texts : State → List (List ℕ)
decoded_texts state = map (decoded_line state.options.short state.database) state.lines

-- each of them on a line, and `ok`
unfoldable pub lines_text : State → List ℕ
lines_text state = flat_map (λ text. text ++ codes "\n") (decoded_texts state) ++ ok_text

unfoldable pub print_text : Database → List ℕ
print_text database = canonical_text database ++ ok_text

-- ---- what a command does

abbrev pub Does : Option Command → State → State → List ℕ → Type 0
Does None before after text = (after ≡ before) × (text ≡ bad_text)
Does (Some (Log line)) before after text = (answer : Result (Unit {0}) Refusal) × Adds line before answer after
    × (text ≡ answer_text answer)
Does (Some (Change edit)) before after text = (answer : Result (Unit {0}) Refusal) × Applies edit before answer after
    × (text ≡ answer_text answer)
Does (Some ShowDiagnostics) before after text = (after ≡ before) × (text ≡ diagnostics_text before.database)
Does (Some (ShowLayout index)) before after text = (after ≡ before) × (text ≡ layout_text before.database index)
Does (Some ShowLines) before after text = (after ≡ before) × (text ≡ lines_text before)
Does (Some Print) before after text = (after ≡ before) × (text ≡ print_text before.database)

-- ---- lines

-- memory ran out before it was known what the line asks for
abbrev pub IsStopped : List ℕ → State → State → List ℕ → Type 0
IsStopped line before after text = IsTrue (takes_memory (verb_of (word_of (body_of line)))) × (after ≡ before)
    × (text ≡ refused_text refusals.Memory)

-- the line leads from one state to the other, and this is its reply
abbrev pub Replies : State → List ℕ → State → List ℕ → Type 0
Replies before line after text = IsStopped line before after text ⊎ ((meaning : Option Command) × Means line meaning
    × Does meaning before after text)
