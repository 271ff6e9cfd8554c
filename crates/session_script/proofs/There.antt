-- A line that is written as a command asks for it.
use Rattle.std.proofs.Common.{◌≡◌, ℕ, List, ◌∷◌, ◌++◌, Option, Some, refl, sym, ap, subst, ◌∙◌}
use Rattle.std.specs.Prelude.{codes, IsTrue, option_map}
use Rattle.dbc_values.specs.Lexical.{space, quoted}
use Rattle.dbc_values.specs.Names.{IsName, IsText}
use Rattle.dbc_records.specs.Records.{head_fits}
use Rattle.dbc_reader.specs.declared.statement.Statement.TheVariants as statements
use Rattle.dbc_edits.specs.Changes.{Change as NewLine}
use Rattle.dbc_edits.specs.declared.edit.Edit.{Edit}
use Rattle.dbc_edits.specs.declared.edit.Edit.TheVariants as edits
use Rattle.can_frames.specs.LogLines.{body_of}
use Rattle.session_script.specs.declared.verb.Verb.TheVariants as verbs
use Rattle.session_script.specs.Words.{word_of, rest_of, verb_of}
use Rattle.session_script.specs.Commands.{Command, Log, Change, ShowDiagnostics, ShowLayout, ShowLines, Print, Sense, HasSense}
use Rattle.session_script.specs.Commands.{number_and_rest, by_pair, with_number, by_name, by_names, by_number, by_string}
use Rattle.session_script.specs.Commands.{change_by, by_size, show, line_sense, Means}
use Rattle.session_script.specs.ScriptGrammar.{SpellsNumber, AreWritten, edit_words, command_words, IsScriptLine}
use Rattle.session_script.proofs.Spaces.{IsUnbroken, word_is, rest_is}
use Rattle.session_script.proofs.WordTexts.{number_there, number_unbroken, name_unbroken, inside_quoted, string_there}
use Rattle.session_script.proofs.Bodies.{body_there}
use Rattle.session_script.proofs.Verbs.{line_there}

-- ---- words

pair_there : (text front rest : List ℕ) (number : ℕ) → text ≡ front ++ space ∷ rest → SpellsNumber front number
    → number_and_rest text ≡ Some (number, rest)
pair_there text front rest number parts spelled =
    let unbroken : IsUnbroken front = number_unbroken front number spelled in
    ap number_and_rest parts
    ∙ rw (word_is front rest unbroken, rest_is front rest unbroken, number_there front number spelled) refl

number_first : (sense : ℕ → List ℕ → Sense) (text front rest : List ℕ) (number : ℕ) (meaning : Option Command)
    → text ≡ front ++ space ∷ rest → SpellsNumber front number → HasSense (sense number rest) meaning
    → HasSense (with_number sense text) meaning
number_first sense text front rest number meaning parts spelled means =
    subst (λ one. HasSense (by_pair sense one) meaning) (sym (pair_there text front rest number parts spelled)) means

number_last : (edit : ℕ → Edit) (text : List ℕ) (number : ℕ) → SpellsNumber text number
    → HasSense (by_number edit text) (Some (Change (edit number)))
number_last edit text number spelled = rw (number_there text number spelled) refl

name_last : (edit : List ℕ → Edit) (text name : List ℕ) → (text ≡ name) × IsName name
    → HasSense (by_name edit text) (Some (Change (edit name)))
name_last edit text name is = rw (is.0, is.1) refl

string_last : (edit : List ℕ → Edit) (text inner : List ℕ) → (text ≡ quoted inner) × IsText inner
    → HasSense (by_string edit text) (Some (Change (edit inner)))
string_last edit text inner is = rw (is.0, string_there inner is.1, inside_quoted inner) refl

-- a name, and all that follows it
name_parts : (text front rest name : List ℕ) → text ≡ front ++ space ∷ rest → (front ≡ name) × IsName name
    → (word_of text ≡ name) × (rest_of text ≡ Some rest)
name_parts text front rest name parts is =
    let whole : text ≡ name ++ space ∷ rest = parts ∙ ap (λ front. front ++ space ∷ rest) is.0 in
    let unbroken : IsUnbroken name = name_unbroken name is.1 in
    (ap word_of whole ∙ word_is name rest unbroken, ap rest_of whole ∙ rest_is name rest unbroken)

names_last : (edit : List ℕ → List ℕ → Edit) (text front rest old new : List ℕ) → text ≡ front ++ space ∷ rest
    → (front ≡ old) × IsName old → (rest ≡ new) × IsName new
    → HasSense (by_names edit (word_of text) (rest_of text)) (Some (Change (edit old new)))
names_last edit text front rest old new parts old_is new_is =
    let first = name_parts text front rest old parts old_is in
    rw (first.0, first.1, new_is.0, old_is.1, new_is.1) refl

-- a message's new first line
size_there : (index : ℕ) (name text front rest : List ℕ) (change : NewLine) → name ≡ change.name → IsName change.name
    → text ≡ front ++ space ∷ rest → SpellsNumber front change.size × IsTrue (head_fits change.size)
    → (rest ≡ change.sender) × IsName change.sender
    → Some (Change (edits.ChangeMessage index change)) ≡ by_size index name (number_and_rest text)
size_there index name text front rest change name_is named parts size sender =
    rw (pair_there text front rest change.size parts size.0, name_is, sender.0, named, sender.1, size.1) refl

change_there : (index : ℕ) (text front rest size_text sender : List ℕ) (change : NewLine) → text ≡ front ++ space ∷ rest
    → (front ≡ change.name) × IsName change.name → rest ≡ size_text ++ space ∷ sender
    → SpellsNumber size_text change.size × IsTrue (head_fits change.size)
    → (sender ≡ change.sender) × IsName change.sender
    → Some (Change (edits.ChangeMessage index change)) ≡ change_by index (word_of text) (rest_of text)
change_there index text front rest size_text sender change parts name more size sender_is =
    let first = name_parts text front rest change.name parts name in
    rw (first.0, first.1) (size_there index change.name rest size_text sender change refl name.1 more size sender_is)

-- ---- edits

abbrev Asks : List ℕ → Command → Type 0
Asks body command = HasSense (line_sense (verb_of (word_of body)) (rest_of body)) (Some command)

edit_there : (body : List ℕ) (edit : Edit) → AreWritten (edit_words edit) body → Asks body (Change edit)
edit_there body (edits.AddMessage index head) w =
    line_there verbs.AddMessage body w.0 w.1 _ w.2 w.3 (number_first _ w.1 w.4.0 w.4.1 index _ w.4.2 w.4.3 (
      Some (statements.Head head),
      w.4.4,
      refl,
    ))
edit_there body (edits.RemoveMessage index) w =
    line_there verbs.RemoveMessage body w.0 w.1 _ w.2 w.3 (number_last (λ index. edits.RemoveMessage index) w.1 index w.4)
edit_there body (edits.ChangeMessage index change) w =
    let more = w.4.4 in
    line_there verbs.ChangeMessage body w.0 w.1 _ w.2 w.3 (number_first _ w.1 w.4.0 w.4.1 index _ w.4.2 w.4.3
    (change_there index w.4.1 more.0 more.1 more.4.0 more.4.1 change more.2 more.3 more.4.2 more.4.3 more.4.4))
edit_there body (edits.Renumber index number) w =
    line_there verbs.Renumber body w.0 w.1 _ w.2 w.3 (number_first _ w.1 w.4.0 w.4.1 index _ w.4.2 w.4.3
    (number_last (λ n. edits.Renumber index n) w.4.1 number w.4.4))
edit_there body (edits.AddSignal index at signal) w =
    let more = w.4.4 in
    line_there verbs.AddSignal body w.0 w.1 _ w.2 w.3 (number_first _ w.1 w.4.0 w.4.1 index _ w.4.2 w.4.3
    (number_first _ w.4.1 more.0 more.1 at _ more.2 more.3 (Some (statements.Signal signal), more.4, refl)))
edit_there body (edits.RemoveSignal index name) w =
    line_there verbs.RemoveSignal body w.0 w.1 _ w.2 w.3 (number_first _ w.1 w.4.0 w.4.1 index _ w.4.2 w.4.3
    (name_last (λ n. edits.RemoveSignal index n) w.4.1 name w.4.4))
edit_there body (edits.ChangeSignal index signal) w =
    line_there verbs.ChangeSignal body w.0 w.1 _ w.2 w.3 (number_first _ w.1 w.4.0 w.4.1 index _ w.4.2 w.4.3 (
      Some (statements.Signal signal),
      w.4.4,
      refl,
    ))
edit_there body (edits.RenameSignal index old new) w =
    let more = w.4.4 in
    line_there verbs.RenameSignal body w.0 w.1 _ w.2 w.3 (number_first _ w.1 w.4.0 w.4.1 index _ w.4.2 w.4.3
    (names_last (λ old new. edits.RenameSignal index old new) w.4.1 more.0 more.1 old new more.2 more.3 more.4))
edit_there body (edits.SetMux row) w =
    line_there verbs.SetMux body w.0 w.1 _ w.2 w.3 (Some (statements.Mux row), w.4, refl)
edit_there body (edits.SetValues row) w =
    line_there verbs.SetValues body w.0 w.1 _ w.2 w.3 (Some (statements.Values row), w.4, refl)
edit_there body (edits.SetTable row) w =
    line_there verbs.SetTable body w.0 w.1 _ w.2 w.3 (Some (statements.Table row), w.4, refl)
edit_there body (edits.SetAttribute name number value) w =
    line_there verbs.SetAttribute body w.0 w.1 _ w.2 w.3 (Some (statements.Attribute _), w.4, refl)
edit_there body (edits.DropMux number name) w =
    line_there verbs.DropMux body w.0 w.1 _ w.2 w.3 (number_first _ w.1 w.4.0 w.4.1 number _ w.4.2 w.4.3
    (name_last (λ n. edits.DropMux number n) w.4.1 name w.4.4))
edit_there body (edits.DropValues number name) w =
    line_there verbs.DropValues body w.0 w.1 _ w.2 w.3 (number_first _ w.1 w.4.0 w.4.1 number _ w.4.2 w.4.3
    (name_last (λ n. edits.DropValues number n) w.4.1 name w.4.4))
edit_there body (edits.DropTable name) w =
    line_there verbs.DropTable body w.0 w.1 _ w.2 w.3 (name_last (λ n. edits.DropTable n) w.1 name w.4)
edit_there body (edits.DropAttribute name number) w =
    line_there verbs.DropAttribute body w.0 w.1 _ w.2 w.3 (number_first _ w.1 w.4.0 w.4.1 number _ w.4.2 w.4.3
    (string_last (λ n. edits.DropAttribute n number) w.4.1 name w.4.4))

-- ---- what is shown

diagnostics_there : (text : List ℕ) → text ≡ codes "diagnostics" → Some ShowDiagnostics ≡ show text
unfolding show
diagnostics_there text is = rw is refl

lines_there : (text : List ℕ) → text ≡ codes "lines" → Some ShowLines ≡ show text
unfolding show
lines_there text is = rw is refl

layout_there : (text front rest : List ℕ) (index : ℕ) → text ≡ front ++ space ∷ rest → front ≡ codes "layout"
    → SpellsNumber rest index → Some (ShowLayout index) ≡ show text
unfolding show
layout_there text front rest index parts word spelled =
    rw (parts, word) (ap (option_map (λ index. ShowLayout index)) (sym (number_there rest index spelled)))

-- ---- lines

command_there : (body : List ℕ) (command : Command) → AreWritten (command_words command) body → Asks body command
unfolding verb_of
command_there body (Log line) w = line_there verbs.Log body w.0 w.1 _ w.2 w.3 (ap (λ line. Some (Log line)) (sym w.4))
command_there body (Change edit) w = edit_there body edit w
command_there body ShowDiagnostics w = line_there verbs.Show body w.0 w.1 _ w.2 w.3 (diagnostics_there w.1 w.4)
command_there body (ShowLayout index) w =
    line_there verbs.Show body w.0 w.1 _ w.2 w.3 (layout_there w.1 w.4.0 w.4.1 index w.4.2 w.4.3 w.4.4)
command_there body ShowLines w = line_there verbs.Show body w.0 w.1 _ w.2 w.3 (lines_there w.1 w.4)
command_there body Print w = rw w refl

pub there : (line : List ℕ) (command : Command) → IsScriptLine line command → Means line (Some command)
unfolding Means
there line command is =
    let body : body_of line ≡ is.body = body_there line is.body is.ends in
    rw body (command_there is.body command is.written)
