-- What a line of a script asks for.
use Rattle.std.specs.Prelude.{◌≡◌, ℕ, ◌&&◌, ◌==◌, ◌∷◌, [], Bool, true, false, List, Option, Some, None, codes, option_map}
use Rattle.std.specs.Prelude.{option_and_then}
use Rattle.std.specs.Prelude.{if◌then◌else◌}
use Rattle.std.specs.Str.{bytes_eq}
use Rattle.dbc_values.specs.Lexical.{is_name}
use Rattle.dbc_values.specs.Pieces.{is_string, inside}
use Rattle.dbc_records.specs.Records.{head_fits}
use Rattle.dbc_records.specs.Attributes.{AttrRow}
use Rattle.dbc_records.specs.declared.target.Target.{Target}
use Rattle.dbc_records.specs.declared.target.Target.TheVariants as targets
use Rattle.dbc_tokens.specs.declared.fault.ReadFault.{ReadFault}
use Rattle.dbc_reader.specs.declared.statement.Statement.{Statement}
use Rattle.dbc_reader.specs.declared.statement.Statement.TheVariants as statements
use Rattle.dbc_reader.specs.Grammar as grammar
use Rattle.dbc_reader.specs.Texts.{HasStatement, HasFirstFault}
use Rattle.dbc_edits.specs.Changes.{Change as NewLine}
use Rattle.dbc_edits.specs.declared.edit.Edit.{Edit}
use Rattle.dbc_edits.specs.declared.edit.Edit.TheVariants as edits
use Rattle.can_frames.specs.LogLines.{body_of}
use Rattle.session_script.specs.declared.command.Command.{Command as CodedCommand}
use Rattle.session_script.specs.declared.command.Command.TheVariants as coded
use Rattle.session_script.specs.declared.verb.Verb.{Verb}
use Rattle.session_script.specs.declared.verb.Verb.TheVariants as verbs
use Rattle.session_script.specs.Words.{word_of, rest_of, number_of, verb_of}

pub data Command : Type 0 where
  Log : List ℕ → Command
  Change : Edit → Command
  ShowDiagnostics : Command
  ShowLayout : ℕ → Command
  ShowLines : Command
  Print : Command

-- ---- statements

-- the one statement of a text, or none if it has a first fault
abbrev pub Says : List ℕ → Option Statement → Type 0
Says text (Some statement) = HasStatement text statement
Says text None = (fault : ReadFault) × HasFirstFault grammar.one_statement text fault

-- What the words after a verb ask for: a command or none, as they are, or a command by the statement of a text.
pub data Sense : Type 0 where
  Plain : Option Command → Sense
  Reads : List ℕ → (Statement → Option Command) → Sense

abbrev pub HasSense : Sense → Option Command → Type 0
HasSense (Plain command) meaning = meaning ≡ command
HasSense (Reads text command) meaning = (spoken : Option Statement) × Says text spoken × (meaning ≡ option_and_then command spoken)

-- an attribute of a message, as an edit sets it
abbrev pub attribute_set : AttrRow → Target → Option Edit
attribute_set row (targets.Message number) = Some (edits.SetAttribute row.name number row.value)
attribute_set row target = None

-- The edit that a verb asks for by a statement, after the indexes of a message and of a signal. If the verb takes fewer indexes,
-- the values of the others don't matter.
abbrev pub edit_by : Verb → ℕ → ℕ → Statement → Option Edit
edit_by verbs.AddMessage index at (statements.Head head) = Some (edits.AddMessage index head)
edit_by verbs.AddSignal index at (statements.Signal signal) = Some (edits.AddSignal index at signal)
edit_by verbs.ChangeSignal index at (statements.Signal signal) = Some (edits.ChangeSignal index signal)
edit_by verbs.SetMux index at (statements.Mux row) = Some (edits.SetMux row)
edit_by verbs.SetValues index at (statements.Values row) = Some (edits.SetValues row)
edit_by verbs.SetTable index at (statements.Table row) = Some (edits.SetTable row)
edit_by verbs.SetAttribute index at (statements.Attribute row) = attribute_set row row.target
edit_by verb index at statement = None

-- an edit is a command
abbrev pub changes : Option Edit → Option Command
changes edit = option_map (λ e. Change e) edit

-- by the statement of the text
abbrev pub by_statement : Verb → ℕ → ℕ → List ℕ → Sense
by_statement verb index at text = Reads text (λ statement. changes (edit_by verb index at statement))

-- ---- words

-- a number, and all that is after its blank
abbrev pub both : Option ℕ → Option (List ℕ) → Option (ℕ × List ℕ)
both (Some number) (Some rest) = Some (number, rest)
both (Some number) None = None
both None rest = None

abbrev pub number_and_rest : List ℕ → Option (ℕ × List ℕ)
number_and_rest text = both (number_of (word_of text)) (rest_of text)

-- by a number and what is after it, or nothing
abbrev pub by_pair : (ℕ → List ℕ → Sense) → Option (ℕ × List ℕ) → Sense
by_pair sense None = Plain None
by_pair sense (Some one) = sense one.0 one.1

abbrev pub with_number : (ℕ → List ℕ → Sense) → List ℕ → Sense
with_number sense text = by_pair sense (number_and_rest text)

-- by a name, which is all that is left
abbrev pub by_name : (List ℕ → Edit) → List ℕ → Sense
by_name edit text = Plain (if is_name text then Some (Change (edit text)) else None)

-- by an old name and a new one, which is all that is left
abbrev pub by_names : (List ℕ → List ℕ → Edit) → List ℕ → Option (List ℕ) → Sense
by_names edit old None = Plain None
by_names edit old (Some new) = Plain (if is_name old && is_name new then Some (Change (edit old new)) else None)

-- by a number, which is all that is left
abbrev pub by_number : (ℕ → Edit) → List ℕ → Sense
by_number edit text = Plain (option_map (λ number. Change (edit number)) (number_of text))

-- by a string, which is all that is left
abbrev pub by_string : (List ℕ → Edit) → List ℕ → Sense
by_string edit text = Plain (if is_string text then Some (Change (edit (inside text))) else None)

-- a message's new first line: its name, its length (DLC) and its sender
abbrev pub change_of : List ℕ → ℕ → List ℕ → Option NewLine
change_of name size sender = if is_name name && is_name sender && head_fits size then Some (record {
  name = name;
  size = size;
  sender = sender;
}) else None

abbrev pub change_to : ℕ → List ℕ → ℕ → List ℕ → Option Command
change_to index name size sender = option_map (λ change. Change (edits.ChangeMessage index change)) (change_of name size sender)

abbrev pub by_size : ℕ → List ℕ → Option (ℕ × List ℕ) → Option Command
by_size index name None = None
by_size index name (Some one) = change_to index name one.0 one.1

abbrev pub change_by : ℕ → List ℕ → Option (List ℕ) → Option Command
change_by index name None = None
change_by index name (Some text) = by_size index name (number_and_rest text)

abbrev pub show_layout : Option (List ℕ) → Option Command
show_layout text = option_map (λ index. ShowLayout index) (option_and_then number_of text)

unfoldable pub show : List ℕ → Option Command
show text =
    if bytes_eq text (codes "diagnostics") then Some ShowDiagnostics
    else (if bytes_eq text (codes "lines") then Some ShowLines
    else (if bytes_eq (word_of text) (codes "layout") then show_layout (rest_of text) else None))

-- ---- verbs

-- what the verb of an edit asks for with the text after its blank
abbrev pub edit_sense : Verb → List ℕ → Sense
edit_sense verbs.AddMessage text = with_number (λ index statement. by_statement verbs.AddMessage index 0 statement) text
edit_sense verbs.RemoveMessage text = by_number (λ index. edits.RemoveMessage index) text
edit_sense verbs.ChangeMessage text = with_number (λ index words. Plain (change_by index (word_of words) (rest_of words))) text
edit_sense verbs.Renumber text = with_number (λ index number. by_number (λ n. edits.Renumber index n) number) text
edit_sense verbs.AddSignal text =
    with_number (λ index words. with_number (λ at statement. by_statement verbs.AddSignal index at statement) words) text
edit_sense verbs.RemoveSignal text = with_number (λ index name. by_name (λ n. edits.RemoveSignal index n) name) text
edit_sense verbs.ChangeSignal text = with_number (λ index statement. by_statement verbs.ChangeSignal index 0 statement) text
edit_sense verbs.RenameSignal text = with_number (λ index names. by_names (λ old new. edits.RenameSignal index old new)
    (word_of names) (rest_of names)) text
edit_sense verbs.SetMux text = by_statement verbs.SetMux 0 0 text
edit_sense verbs.SetValues text = by_statement verbs.SetValues 0 0 text
edit_sense verbs.SetTable text = by_statement verbs.SetTable 0 0 text
edit_sense verbs.SetAttribute text = by_statement verbs.SetAttribute 0 0 text
edit_sense verbs.DropMux text = with_number (λ number name. by_name (λ n. edits.DropMux number n) name) text
edit_sense verbs.DropValues text = with_number (λ number name. by_name (λ n. edits.DropValues number n) name) text
edit_sense verbs.DropTable text = by_name (λ n. edits.DropTable n) text
edit_sense verbs.DropAttribute text = with_number (λ number name. by_string (λ n. edits.DropAttribute n number) name) text
edit_sense verb text = Plain None

-- what a verb asks for with the text after its blank
abbrev pub sense_of : Verb → List ℕ → Sense
sense_of verbs.Log text = Plain (Some (Log text))
sense_of verbs.Show text = Plain (show text)
sense_of verb text = edit_sense verb text

-- the one verb without arguments is `print`
abbrev pub sense_alone : Verb → Sense
sense_alone verbs.Print = Plain (Some Print)
sense_alone verb = Plain None

abbrev pub line_sense : Option Verb → Option (List ℕ) → Sense
line_sense None rest = Plain None
line_sense (Some verb) (Some text) = sense_of verb text
line_sense (Some verb) None = sense_alone verb

-- what a line asks for; a line that asks for nothing is a bad command
unfoldable pub Means : List ℕ → Option Command → Type 0
Means line meaning = HasSense (line_sense (verb_of (word_of (body_of line))) (rest_of (body_of line))) meaning

-- what is after a byte at the front
abbrev pub after_byte : ℕ → List ℕ → Option (List ℕ)
after_byte wanted [] = None
after_byte wanted (b ∷ rest) = if b == wanted then Some rest else None

-- the line of a log that a line of a script gives, if it begins with `log` and a blank
abbrev pub log_line : List ℕ → Option (List ℕ)
log_line line = option_and_then (after_byte 32) (option_and_then (after_byte 103) (option_and_then (after_byte 111)
    (after_byte 108 (body_of line))))

-- memory may run out while such a command is read
abbrev pub takes_memory : Option Verb → Bool
takes_memory None = false
takes_memory (Some verbs.Show) = false
takes_memory (Some verbs.Print) = false
takes_memory (Some verb) = true

-- ---- commands of the code

abbrev pub seen : CodedCommand → Command
seen (coded.Log line) = Log line.now
seen (coded.Change edit) = Change edit
seen coded.ShowDiagnostics = ShowDiagnostics
seen (coded.ShowLayout index) = ShowLayout index
seen coded.ShowLines = ShowLines
seen coded.Print = Print
