-- What a session is to its callers, and one step of it.
use Rattle.std.specs.Prelude.{◌≡◌, ℕ, nat_lt, List, [], ◌∷◌, ◌++◌, length, count_by, Result, Ok}
use Rattle.std.specs.Prelude.{Err, MatchResult, if◌then◌else◌}
use Rattle.dbc_records.specs.Databases.{Database}
use Rattle.dbc_tokens.specs.declared.fault.ReadFault.{ReadFault}
use Rattle.dbc_reader.specs.Texts.{HasDatabase, IsRead}
use Rattle.can_layout.specs.Meters.{Meter}
use Rattle.dbc_edits.specs.declared.edit.Edit.{Edit}
use Rattle.dbc_edits.specs.declared.refusal.Refusal.{Refusal}
use Rattle.dbc_edits.specs.declared.refusal.Refusal.TheVariants as refusals
use Rattle.dbc_edits.specs.Refusals.{IsRefusal}
use Rattle.dbc_edits.specs.Edits.{edited}
use Rattle.session_log.specs.Touched.{line_touched}
use Rattle.can_decode.specs.declared.short.Short.TheVariants.{Refuse}
use Rattle.can_session.specs.declared.options.Options.{Options}
use Rattle.session_kept_lines.specs.declared.keep.Keep.{Keep}
use Rattle.session_kept_lines.specs.declared.keep.Keep.TheVariants.{All}
use Rattle.session_kept_lines.specs.Keeping.{kept, is_full}
use Rattle.session_database.specs.CompiledMessage.{messages_touched, Raised, nothing_made}

-- what is chosen as the session is opened, and what commands change: the database, and the kept lines in order of arrival
pub record State : Type 0 where
  pub options : Options
  pub database : Database
  pub lines : List (List ℕ)

-- the default options: truncated frames are refused, and all lines are kept
abbrev pub usual : Options
usual = record { short = Refuse; keep = All }

-- what contracts see of a session
pub record Open : Type 0 where
  pub state : State
  pub meter : Meter

-- ---- the first state

-- The state of a text's database without lines, with the options, for which at most as many plans and diagrams were counted as
-- there are messages. Or the first fault of the text, or memory ran out.
abbrev pub Opens : List ℕ → Options → Result Open ReadFault → Type 0
Opens text options (Ok session) =
    HasDatabase text session.state.database × (session.state.lines ≡ []) × Raised (length session.state.database.messages) 0
    nothing_made session.meter
    × (session.state.options ≡ options)
Opens text options (Err fault) = IsRead text (Err fault)

-- ---- edits

-- An accepted edit gives the defined database. A refused one is refused for the defined cause, or because memory ran out if the
-- definition accepts it, and the state is as it was.
abbrev pub Applies : Edit → State → Result (Unit {0}) Refusal → State → Type 0
Applies edit before answer after =
    MatchResult answer
    (λ _. (edited before.database edit ≡ Ok after.database) × (after.lines ≡ before.lines) × (after.options ≡ before.options))
    (λ refusal. IsRefusal (edited before.database edit) refusal × (after ≡ before))

-- An accepted edit raises the counts of plans and diagrams at most by the messages of the edited database that have one of its CAN
-- identifiers, and that of lines at most by the lines that it touches, also if memory runs out. A refused one raises none.
abbrev pub RaisedBy : Result Database Refusal → List ℕ → List (List ℕ) → Meter → Meter → Type 0
RaisedBy defined numbers lines before after =
    MatchResult defined
    (λ database. Raised (messages_touched numbers database) (count_by (line_touched numbers) lines) before after)
    (λ _. after ≡ before)

-- ---- lines

-- the most bytes of one
abbrev pub longest_line : ℕ
longest_line = 4096

-- the kept lines with one more, or why it is refused
abbrev pub with_line : Keep → List (List ℕ) → List ℕ → Result (List (List ℕ)) Refusal
with_line keep lines line =
    if is_full keep (length lines) then Err refusals.LogFull
    else (if nat_lt longest_line (length line) then Err refusals.LongLine
    else Ok (kept keep (lines ++ line ∷ [])))

-- the same for a line
abbrev pub Adds : List ℕ → State → Result (Unit {0}) Refusal → State → Type 0
Adds line before answer after =
    MatchResult answer
    (λ _. (with_line before.options.keep before.lines line ≡ Ok after.lines) × (after.database ≡ before.database)
    × (after.options ≡ before.options))
    (λ refusal. IsRefusal (with_line before.options.keep before.lines line) refusal × (after ≡ before))
