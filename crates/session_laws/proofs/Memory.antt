-- No definition refuses because memory ran out.
use Rattle.std.proofs.Common.{◌≡◌, ℕ, List, Bool, true, false}
use Rattle.std.specs.Prelude.{Option, Some, None, Result, Ok, Err, MatchResult, nat_lt, length, if◌then◌else◌}
use Rattle.dbc_records.specs.Records.{Message}
use Rattle.dbc_records.specs.Databases.{Database}
use Rattle.dbc_edits.specs.declared.edit.Edit.{Edit}
use Rattle.dbc_edits.specs.declared.edit.Edit.TheVariants as edits
use Rattle.dbc_edits.specs.declared.refusal.Refusal.{Refusal}
use Rattle.dbc_edits.specs.declared.refusal.Refusal.TheVariants as refusals
use Rattle.dbc_edits.specs.Edits.{edited, at_message, refused_if, message_added, message_removed, message_changed}
use Rattle.dbc_edits.specs.Edits.{message_renumbered, signal_added, signal_removed, signal_changed, signal_renamed, mux_set}
use Rattle.dbc_edits.specs.Edits.{values_set, mux_dropped, values_dropped, table_set, table_dropped, attribute_set}
use Rattle.dbc_edits.specs.Edits.{attribute_dropped}
use Rattle.can_session.specs.States.{State, longest_line, with_line}
use Rattle.session_kept_lines.specs.Keeping.{is_full}
use Rattle.session_laws.specs.Runs.{Change, Retain, with_database, with_lines, unless_stopped, answer_of, OnlyStopped}

-- if it is refused, then for a cause
abbrev pub HasCause : {A : Type 0} → Result A Refusal → Type 0
HasCause result = MatchResult result (λ _. Unit {0}) (λ refusal. ¬ (refusal ≡ refusals.Memory))

at-message : (message : Option Message) (change : Message → Result Database Refusal)
    → ((message : Message) → HasCause (change message)) → HasCause (at_message message change)
unfolding at_message
at-message None change h = λ is. cc
at-message (Some message) change h = h message

refused : (test : Bool) (refusal : Refusal) (otherwise : Result Database Refusal) → ¬ (refusal ≡ refusals.Memory)
    → HasCause otherwise → HasCause (refused_if test refusal otherwise)
unfolding refused_if
refused true refusal otherwise cause h = cause
refused false refusal otherwise cause h = h

-- an edit after the lookup of a message's index, a test or two tests
edited-has-cause : (database : Database) (edit : Edit) → HasCause (edited database edit)
unfolding message_added message_removed message_changed message_renumbered signal_added signal_removed signal_changed signal_renamed
    mux_set values_set mux_dropped values_dropped table_set table_dropped attribute_set attribute_dropped
edited-has-cause database (edits.AddMessage index head) = refused _ refusals.BadPlace _ (λ is. cc) (refused _ refusals.MessagesFull
    _ (λ is. cc) tt)
edited-has-cause database (edits.RemoveMessage index) = at-message _ _ (λ message. tt)
edited-has-cause database (edits.ChangeMessage index change) = at-message _ _ (λ message. tt)
edited-has-cause database (edits.Renumber index number) =
    at-message _ _ (λ message. refused _ refusals.IdTaken _ (λ is. cc) (refused _ refusals.IdShared _ (λ is. cc) tt))
edited-has-cause database (edits.AddSignal index at signal) =
    at-message _ _ (λ message. refused _ refusals.BadPlace _ (λ is. cc) (refused _ refusals.SignalExists _ (λ is. cc)
    (refused _ refusals.SignalsFull _ (λ is. cc) tt)))
edited-has-cause database (edits.RemoveSignal index name) = at-message _ _ (λ message. refused _ refusals.NoSignal _ (λ is. cc) tt)
edited-has-cause database (edits.ChangeSignal index signal) =
    at-message _ _ (λ message. refused _ refusals.NoSignal _ (λ is. cc) tt)
edited-has-cause database (edits.RenameSignal index old new) =
    at-message _ _ (λ message. refused _ refusals.NoSignal _ (λ is. cc) (refused _ refusals.SignalExists _ (λ is. cc)
    (refused _ refusals.NameTaken _ (λ is. cc) (refused _ refusals.NameShared _ (λ is. cc) tt))))
edited-has-cause database (edits.SetMux row) = refused _ refusals.NoMessage _ (λ is. cc)
    (refused _ refusals.NoSignal _ (λ is. cc) tt)
edited-has-cause database (edits.SetValues row) = refused _ refusals.NoMessage _ (λ is. cc)
    (refused _ refusals.NoSignal _ (λ is. cc) tt)
edited-has-cause database (edits.DropMux number signal) = refused _ refusals.NoRow _ (λ is. cc) tt
edited-has-cause database (edits.DropValues number signal) = refused _ refusals.NoRow _ (λ is. cc) tt
edited-has-cause database (edits.DropTable name) = refused _ refusals.NoRow _ (λ is. cc) tt
edited-has-cause database (edits.SetTable row) = tt
edited-has-cause database (edits.SetAttribute name number value) = refused _ refusals.NoMessage _ (λ is. cc)
    (refused _ refusals.NoDefinition _ (λ is. cc) tt)
edited-has-cause database (edits.DropAttribute name number) = refused _ refusals.NoRow _ (λ is. cc) tt

line-has-cause : (full long : Bool) (lines : List (List ℕ))
    → HasCause (if full then Err refusals.LogFull else (if long then Err refusals.LongLine else Ok lines))
line-has-cause true long lines = λ is. cc
line-has-cause false true lines = λ is. cc
line-has-cause false false lines = tt

database-answers : (state : State) (defined : Result Database Refusal) → HasCause defined
    → answer_of (unless_stopped false (with_database state defined)) ≡ Err refusals.Memory → ⊥
database-answers state (Ok database) h is = cc
database-answers state (Err cause) h is = h cc

lines-answer : (state : State) (defined : Result (List (List ℕ)) Refusal) → HasCause defined
    → answer_of (unless_stopped false (with_lines state defined)) ≡ Err refusals.Memory → ⊥
lines-answer state (Ok lines) h is = cc
lines-answer state (Err cause) h is = h cc

pub only_stopped : OnlyStopped
only_stopped state (Change edit) = database-answers state (edited state.database edit) (edited-has-cause state.database edit)
only_stopped state (Retain line) = lines-answer state (with_line state.options.keep state.lines line)
    (line-has-cause (is_full state.options.keep (length state.lines)) (nat_lt longest_line (length line)) _)
