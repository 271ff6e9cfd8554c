-- The grammar of a script line: which words it is written with, separated by single blanks, and which command they form.
use Rattle.std.specs.Prelude.{◌≡◌, ◌<◌, ◌⊎◌, ◌^◌, true, ℕ, List, [], ◌∷◌, ◌++◌, length, codes, IsTrue}
use Rattle.std.specs.List.{AllByRecursion}
use Rattle.std.specs.Str.Parse.{digits_value}
use Rattle.dbc_values.specs.Lexical.{space, carriage_return, is_digit, quoted}
use Rattle.dbc_values.specs.Names.{IsName, IsText}
use Rattle.dbc_records.specs.Records.{head_fits}
use Rattle.dbc_records.specs.declared.target.Target.TheVariants as targets
use Rattle.dbc_reader.specs.declared.statement.Statement.{Statement}
use Rattle.dbc_reader.specs.declared.statement.Statement.TheVariants as statements
use Rattle.dbc_reader.specs.Texts.{HasStatement}
use Rattle.dbc_edits.specs.declared.edit.Edit.{Edit}
use Rattle.dbc_edits.specs.declared.edit.Edit.TheVariants as edits
use Rattle.session_script.specs.Commands.{Command, Log, Change, ShowDiagnostics, ShowLayout, ShowLines, Print}

-- ---- words

-- what is written between two blanks, or after the last one
pub data Word : Type 0 where
  -- these bytes and no others
  Plain : List ℕ → Word
  -- a decimal number of at most 32 bits: an index or a CAN identifier
  Number : ℕ → Word
  -- a message's length (DLC)
  Length : ℕ → Word
  -- the name of a message, a signal, a node or a table
  Name : List ℕ → Word
  -- a text between quotes
  Quoted : List ℕ → Word
  -- a statement of a database text
  Stated : Statement → Word

-- at least one digit `0` to `9`, and the digits have the value of the number
pub record SpellsNumber (text : List ℕ) (number : ℕ) : Type 0 where
  pub some : 0 < length text
  pub digit : AllByRecursion (λ b. is_digit b ≡ true) text
  pub worth : digits_value 10 text ≡ number
  pub fits : number < 2 ^ 32

-- the text is the word
abbrev pub IsWritten : Word → List ℕ → Type 0
IsWritten (Plain bytes) text = text ≡ bytes
IsWritten (Number number) text = SpellsNumber text number
IsWritten (Length size) text = SpellsNumber text size × IsTrue (head_fits size)
IsWritten (Name name) text = (text ≡ name) × IsName name
IsWritten (Quoted inner) text = (text ≡ quoted inner) × IsText inner
IsWritten (Stated statement) text = HasStatement text statement

-- the text is the word and those after it, with one blank between each two
abbrev pub AreWrittenAfter : Word → List Word → List ℕ → Type 0
AreWrittenAfter word [] text = IsWritten word text
AreWrittenAfter word (next ∷ words) text = (front rest : List ℕ) × (text ≡ front ++ space ∷ rest) × IsWritten word front
    × AreWrittenAfter next words rest

abbrev pub AreWritten : List Word → List ℕ → Type 0
AreWritten [] text = text ≡ []
AreWritten (word ∷ words) text = AreWrittenAfter word words text

-- ---- commands

-- The words of each edit. P and Q are indexes of a message and of a signal in it, N is an identifier.
abbrev pub edit_words : Edit → List Word
-- `add-message P BO_ ..`
edit_words (edits.AddMessage index head) = Plain (codes "add-message") ∷ Number index ∷ Stated (statements.Head head) ∷ []
-- `remove-message P`
edit_words (edits.RemoveMessage index) = Plain (codes "remove-message") ∷ Number index ∷ []
-- `change-message P NAME SIZE SENDER`
edit_words (edits.ChangeMessage index change) = Plain (codes "change-message") ∷ Number index ∷ Name change.name
    ∷ Length change.size ∷ Name change.sender ∷ []
-- `renumber P N`
edit_words (edits.Renumber index number) = Plain (codes "renumber") ∷ Number index ∷ Number number ∷ []
-- `add-signal P Q SG_ ..`
edit_words (edits.AddSignal index at signal) = Plain (codes "add-signal") ∷ Number index ∷ Number at
    ∷ Stated (statements.Signal signal) ∷ []
-- `remove-signal P NAME`
edit_words (edits.RemoveSignal index name) = Plain (codes "remove-signal") ∷ Number index ∷ Name name ∷ []
-- `change-signal P SG_ ..`
edit_words (edits.ChangeSignal index signal) = Plain (codes "change-signal") ∷ Number index ∷ Stated (statements.Signal signal) ∷ []
-- `rename-signal P OLD NEW`
edit_words (edits.RenameSignal index old new) = Plain (codes "rename-signal") ∷ Number index ∷ Name old ∷ Name new ∷ []
-- `set-mux SG_MUL_VAL_ ..`
edit_words (edits.SetMux row) = Plain (codes "set-mux") ∷ Stated (statements.Mux row) ∷ []
-- `set-values VAL_ ..`
edit_words (edits.SetValues row) = Plain (codes "set-values") ∷ Stated (statements.Values row) ∷ []
-- `set-table VAL_TABLE_ ..`
edit_words (edits.SetTable row) = Plain (codes "set-table") ∷ Stated (statements.Table row) ∷ []
-- `set-attribute BA_ .. BO_ ..`
edit_words (edits.SetAttribute name number value) = Plain (codes "set-attribute") ∷ Stated (statements.Attribute (record {
  name = name;
  target = targets.Message number;
  value = value;
})) ∷ []
-- `drop-mux N NAME`
edit_words (edits.DropMux number name) = Plain (codes "drop-mux") ∷ Number number ∷ Name name ∷ []
-- `drop-values N NAME`
edit_words (edits.DropValues number name) = Plain (codes "drop-values") ∷ Number number ∷ Name name ∷ []
-- `drop-table NAME`
edit_words (edits.DropTable name) = Plain (codes "drop-table") ∷ Name name ∷ []
-- `drop-attribute N "NAME"`
edit_words (edits.DropAttribute name number) = Plain (codes "drop-attribute") ∷ Number number ∷ Quoted name ∷ []

-- the words of each command
abbrev pub command_words : Command → List Word
-- `log LINE`, and the line is all that follows the blank
command_words (Log line) = Plain (codes "log") ∷ Plain line ∷ []
command_words (Change edit) = edit_words edit
-- `show diagnostics`
command_words ShowDiagnostics = Plain (codes "show") ∷ Plain (codes "diagnostics") ∷ []
-- `show layout P`
command_words (ShowLayout index) = Plain (codes "show") ∷ Plain (codes "layout") ∷ Number index ∷ []
-- `show lines`
command_words ShowLines = Plain (codes "show") ∷ Plain (codes "lines") ∷ []
-- `print`
command_words Print = Plain (codes "print") ∷ []

-- ---- lines

-- the last byte of the text is a carriage return
abbrev pub EndsInReturn : List ℕ → Type 0
EndsInReturn text = (front : List ℕ) × (text ≡ front ++ carriage_return ∷ [])

-- the line is this body, and a carriage return after it if there is one at the end
abbrev pub HasBody : List ℕ → List ℕ → Type 0
HasBody line body = (line ≡ body ++ carriage_return ∷ []) ⊎ ((line ≡ body) × (EndsInReturn line → ⊥))

-- the line is written with the words of the command, and perhaps ends in a carriage return
pub record IsScriptLine (line : List ℕ) (command : Command) : Type 0 where
  pub body : List ℕ
  pub ends : HasBody line body
  pub written : AreWritten (command_words command) body
