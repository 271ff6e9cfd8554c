-- A line that asks for a command is written as the command.
use Rattle.std.proofs.Common.{◌≡◌, ℕ, Bool, true, false, List, ◌∷◌, ◌++◌, Option, Some, None, refl, sym, ap, subst, ◌∙◌}
use Rattle.std.specs.Prelude.{codes, IsTrue, ◌&&◌, option_map, option_and_then, if◌then◌else◌}
use Rattle.std.specs.Str.{bytes_eq}
use Rattle.std.proofs.lemmas.Bool.{and_parts}
use Rattle.std.proofs.lemmas.Slice.Eq.{bytes_eq-Decides}
use Rattle.dbc_values.specs.Lexical.{space, is_name}
use Rattle.dbc_values.specs.Names.{IsName}
use Rattle.dbc_values.specs.Pieces.{is_string, inside}
use Rattle.dbc_records.specs.Records.{head_fits}
use Rattle.dbc_records.specs.Attributes.{AttrRow}
use Rattle.dbc_records.specs.declared.target.Target.{Target}
use Rattle.dbc_records.specs.declared.target.Target.TheVariants as targets
use Rattle.dbc_reader.specs.declared.statement.Statement.{Statement}
use Rattle.dbc_reader.specs.declared.statement.Statement.TheVariants as statements
use Rattle.dbc_reader.specs.Texts.{HasStatement}
use Rattle.dbc_edits.specs.declared.edit.Edit.{Edit}
use Rattle.dbc_edits.specs.declared.edit.Edit.TheVariants as edits
use Rattle.can_frames.specs.LogLines.{body_of}
use Rattle.session_script.specs.declared.verb.Verb.{Verb}
use Rattle.session_script.specs.declared.verb.Verb.TheVariants as verbs
use Rattle.session_script.specs.Words.{word_of, rest_of, number_of, verb_word, verb_of}
use Rattle.session_script.specs.Commands.{Command, Log, Change, ShowDiagnostics, ShowLayout, ShowLines, Print, Sense, HasSense}
use Rattle.session_script.specs.Commands.{both, by_pair, with_number, by_names, by_number, by_statement, edit_by}
use Rattle.session_script.specs.Commands.{changes, attribute_set, change_by, by_size, show, show_layout}
use Rattle.session_script.specs.Commands.{sense_of, sense_alone, line_sense, Means}
use Rattle.session_script.specs.ScriptGrammar.{SpellsNumber, AreWritten, command_words, IsScriptLine}
use Rattle.session_script.proofs.Spaces.{some_same, parts_are, word_alone}
use Rattle.session_script.proofs.WordTexts.{number_found, string_found}
use Rattle.session_script.proofs.Bodies.{body_found}
use Rattle.session_script.proofs.Verbs.{verb_found}

-- the text is the words of the command
abbrev Writes : List ℕ → Command → Type 0
Writes text command = AreWritten (command_words command) text

writes : (text : List ℕ) (made command : Command) → Some command ≡ Some made → Writes text made → Writes text command
writes text made command is written = subst (Writes text) (sym (some_same command made is)) written

-- ---- words

-- a number, a blank and a rest
record HasNumber (text : List ℕ) (number : ℕ) (rest : List ℕ) : Type 0 where
  front : List ℕ
  parts : text ≡ front ++ space ∷ rest
  spelled : SpellsNumber front number

has_number : (text : List ℕ) (number : ℕ) (rest : List ℕ) → number_of (word_of text) ≡ Some number → rest_of text ≡ Some rest
    → HasNumber text number rest
has_number text number rest number_is rest_is = record {
  front = word_of text;
  parts = parts_are text rest rest_is;
  spelled = number_found (word_of text) number number_is;
}

record Numbered (sense : ℕ → List ℕ → Sense) (text : List ℕ) (command : Command) : Type 0 where
  number : ℕ
  rest : List ℕ
  has : HasNumber text number rest
  means : HasSense (sense number rest) (Some command)

numbered_by : (sense : ℕ → List ℕ → Sense) (text : List ℕ) (command : Command) (number : Option ℕ) (rest : Option (List ℕ))
    → number_of (word_of text) ≡ number → rest_of text ≡ rest → HasSense (by_pair sense (both number rest)) (Some command)
    → Numbered sense text command
numbered_by sense text command (Some number) (Some rest) number_is rest_is means =
    record { number = number; rest = rest; has = has_number text number rest number_is rest_is; means = means }
numbered_by sense text command (Some number) None number_is rest_is means = absurd (let no : Some command ≡ None = means in cc)
numbered_by sense text command None rest number_is rest_is means = absurd (let no : Some command ≡ None = means in cc)

numbered : (sense : ℕ → List ℕ → Sense) (text : List ℕ) (command : Command) → HasSense (with_number sense text) (Some command)
    → Numbered sense text command
numbered sense text command means =
    numbered_by sense text command (number_of (word_of text)) (rest_of text) refl refl means

record ByNumber (edit : ℕ → Edit) (text : List ℕ) (command : Command) : Type 0 where
  number : ℕ
  spelled : SpellsNumber text number
  is : Some command ≡ Some (Change (edit number))

by_number_with : (edit : ℕ → Edit) (text : List ℕ) (command : Command) (number : Option ℕ) → number_of text ≡ number
    → Some command ≡ option_map (λ number. Change (edit number)) number → ByNumber edit text command
by_number_with edit text command (Some number) number_is is =
    record { number = number; spelled = number_found text number number_is; is = is }
by_number_with edit text command None number_is is = absurd (let no : Some command ≡ None = is in cc)

by_number_found : (edit : ℕ → Edit) (text : List ℕ) (command : Command) → HasSense (by_number edit text) (Some command)
    → ByNumber edit text command
by_number_found edit text command is = by_number_with edit text command (number_of text) refl is

-- a choice that gives a command has its condition
if_some : (test : Bool) (made command : Command) → Some command ≡ (if test then Some made else None)
    → (test ≡ true) × (Some command ≡ Some made)
if_some true made command is = (refl, is)
if_some false made command is = absurd (let no : Some command ≡ None = is in cc)

record ByNames (edit : List ℕ → List ℕ → Edit) (old : List ℕ) (rest : Option (List ℕ)) (command : Command) : Type 0 where
  new : List ℕ
  rest_is : rest ≡ Some new
  old_named : IsName old
  new_named : IsName new
  is : Some command ≡ Some (Change (edit old new))

by_names_found : (edit : List ℕ → List ℕ → Edit) (old : List ℕ) (rest : Option (List ℕ)) (command : Command)
    → HasSense (by_names edit old rest) (Some command) → ByNames edit old rest command
by_names_found edit old None command is = absurd (let no : Some command ≡ None = is in cc)
by_names_found edit old (Some new) command is =
    let so = if_some (is_name old && is_name new) (Change (edit old new)) command is in
    let named = and_parts (is_name old) (is_name new) so.0 in
    record { new = new; rest_is = refl; old_named = named.0; new_named = named.1; is = so.1 }

-- ---- statements

record Stated (verb : Verb) (index at : ℕ) (text : List ℕ) (command : Command) : Type 0 where
  statement : Statement
  has : HasStatement text statement
  is : Some command ≡ changes (edit_by verb index at statement)

stated : (verb : Verb) (index at : ℕ) (text : List ℕ) (command : Command)
    → HasSense (by_statement verb index at text) (Some command) → Stated verb index at text command
stated verb index at text command (Some statement, states, is) = record { statement = statement; has = states; is = is }
stated verb index at text command (None, states, is) = absurd (let no : Some command ≡ None = is in cc)

none_made : (A : Type 0) (command : Command) → Some command ≡ None → A
none_made A command is = absurd (let no : Some command ≡ None = is in cc)

add_message : (text : List ℕ) (command : Command) (index : ℕ) (rest : List ℕ) → HasNumber text index rest → (statement : Statement)
    → HasStatement rest statement → Some command ≡ changes (edit_by verbs.AddMessage index 0 statement)
    → Writes (codes "add-message" ++ space ∷ text) command
add_message text command index rest number (statements.Head head) has is =
    writes _ (Change (edits.AddMessage index head)) command is
    (codes "add-message", text, refl, refl, (number.front, rest, number.parts, number.spelled, has))
add_message text command index rest number statement has is = none_made _ command is

add_signal : (text : List ℕ) (command : Command) (index at : ℕ) (words rest : List ℕ) → HasNumber text index words
    → HasNumber words at rest → (statement : Statement)
    → HasStatement rest statement → Some command ≡ changes (edit_by verbs.AddSignal index at statement)
    → Writes (codes "add-signal" ++ space ∷ text) command
add_signal text command index at words rest first second (statements.Signal signal) has is =
    writes _ (Change (edits.AddSignal index at signal)) command is (
      codes "add-signal",
      text,
      refl,
      refl,
      (
        first.front,
        words,
        first.parts,
        first.spelled,
        (second.front, rest, second.parts, second.spelled, has),
      ),
    )
add_signal text command index at words rest first second statement has is = none_made _ command is

change_signal : (text : List ℕ) (command : Command) (index : ℕ) (rest : List ℕ) → HasNumber text index rest
    → (statement : Statement)
    → HasStatement rest statement → Some command ≡ changes (edit_by verbs.ChangeSignal index 0 statement)
    → Writes (codes "change-signal" ++ space ∷ text) command
change_signal text command index rest number (statements.Signal signal) has is =
    writes _ (Change (edits.ChangeSignal index signal)) command is
    (codes "change-signal", text, refl, refl, (number.front, rest, number.parts, number.spelled, has))
change_signal text command index rest number statement has is = none_made _ command is

set_mux : (text : List ℕ) (command : Command) (statement : Statement) → HasStatement text statement
    → Some command ≡ changes (edit_by verbs.SetMux 0 0 statement) → Writes (codes "set-mux" ++ space ∷ text) command
set_mux text command (statements.Mux row) has is =
    writes _ (Change (edits.SetMux row)) command is (codes "set-mux", text, refl, refl, has)
set_mux text command statement has is = none_made _ command is

set_values : (text : List ℕ) (command : Command) (statement : Statement) → HasStatement text statement
    → Some command ≡ changes (edit_by verbs.SetValues 0 0 statement) → Writes (codes "set-values" ++ space ∷ text) command
set_values text command (statements.Values row) has is =
    writes _ (Change (edits.SetValues row)) command is (codes "set-values", text, refl, refl, has)
set_values text command statement has is = none_made _ command is

set_table : (text : List ℕ) (command : Command) (statement : Statement) → HasStatement text statement
    → Some command ≡ changes (edit_by verbs.SetTable 0 0 statement) → Writes (codes "set-table" ++ space ∷ text) command
set_table text command (statements.Table row) has is =
    writes _ (Change (edits.SetTable row)) command is (codes "set-table", text, refl, refl, has)
set_table text command statement has is = none_made _ command is

attribute_by : (text : List ℕ) (command : Command) (row : AttrRow) (target : Target) → row.target ≡ target
    → HasStatement text (statements.Attribute row) → Some command ≡ changes (attribute_set row target)
    → Writes (codes "set-attribute" ++ space ∷ text) command
attribute_by text command row (targets.Message number) target has is =
    let same : row ≡ record { name = row.name; target = targets.Message number; value = row.value } =
    ap (λ (target : Target). record { name = row.name; target = target; value = row.value }) target in
    writes _ (Change (edits.SetAttribute row.name number row.value)) command is
    (codes "set-attribute", text, refl, refl, subst (λ (row : AttrRow). HasStatement text (statements.Attribute row)) same has)
attribute_by text command row other target has is = none_made _ command is

set_attribute : (text : List ℕ) (command : Command) (statement : Statement) → HasStatement text statement
    → Some command ≡ changes (edit_by verbs.SetAttribute 0 0 statement) → Writes (codes "set-attribute" ++ space ∷ text) command
set_attribute text command (statements.Attribute row) has is = attribute_by text command row row.target refl has is
set_attribute text command statement has is = none_made _ command is

-- ---- a message's new first line

record HasSize (index : ℕ) (name text : List ℕ) (command : Command) : Type 0 where
  size : ℕ
  sender : List ℕ
  has : HasNumber text size sender
  named : IsName name
  fits : IsTrue (head_fits size)
  sender_named : IsName sender
  is : Some command ≡ Some (Change (edits.ChangeMessage index (record { name = name; size = size; sender = sender })))

changed_if : (index : ℕ) (name : List ℕ) (size : ℕ) (sender : List ℕ) (command : Command) (test : Bool)
    → Some command ≡ option_map (λ change. Change (edits.ChangeMessage index change))
    (if test then Some (record { name = name; size = size; sender = sender }) else None)
    → (test ≡ true)
    × (Some command ≡ Some (Change (edits.ChangeMessage index (record { name = name; size = size; sender = sender }))))
changed_if index name size sender command true is = (refl, is)
changed_if index name size sender command false is = absurd (let no : Some command ≡ None = is in cc)

size_by : (index : ℕ) (name text : List ℕ) (command : Command) (size : Option ℕ) (sender : Option (List ℕ))
    → number_of (word_of text) ≡ size → rest_of text ≡ sender → Some command ≡ by_size index name (both size sender)
    → HasSize index name text command
size_by index name text command (Some size) (Some sender) size_is sender_is is =
    let so = changed_if index name size sender command (is_name name && is_name sender && head_fits size) is in
    let outer = and_parts (is_name name && is_name sender) (head_fits size) so.0 in
    let named = and_parts (is_name name) (is_name sender) outer.0 in
    record {
      size = size;
      sender = sender;
      has = has_number text size sender size_is sender_is;
      named = named.0;
      fits = outer.1;
      sender_named = named.1;
      is = so.1;
    }
size_by index name text command (Some size) None size_is sender_is is = none_made _ command is
size_by index name text command None sender size_is sender_is is = none_made _ command is

change_message : (text : List ℕ) (command : Command) (index : ℕ) (words : List ℕ) → HasNumber text index words
    → (rest : Option (List ℕ)) → rest_of words ≡ rest → Some command ≡ change_by index (word_of words) rest
    → Writes (codes "change-message" ++ space ∷ text) command
change_message text command index words number (Some more) more_is is =
    let line = size_by index (word_of words) more command (number_of (word_of more)) (rest_of more) refl refl is in
    writes _ (Change (edits.ChangeMessage index (record { name = word_of words; size = line.size; sender = line.sender })))
    command line.is (
      codes "change-message",
      text,
      refl,
      refl,
      (
        number.front,
        words,
        number.parts,
        number.spelled,
        (
          word_of words,
          more,
          parts_are words more more_is,
          (refl, line.named),
          (line.has.front, line.sender, line.has.parts, (line.has.spelled, line.fits), (refl, line.sender_named)),
        ),
      ),
    )
change_message text command index words number None more_is is = none_made _ command is

-- ---- what is shown

layout_by : (text : List ℕ) (command : Command) (rest : Option (List ℕ)) → rest_of text ≡ rest → word_of text ≡ codes "layout"
    → (number : Option ℕ) → option_and_then number_of rest ≡ number
    → Some command ≡ option_map (λ index. ShowLayout index) number
    → Writes (codes "show" ++ space ∷ text) command
layout_by text command (Some rest) rest_is word (Some index) index_is is =
    writes _ (ShowLayout index) command is
    (codes "show", text, refl, refl, (word_of text, rest, parts_are text rest rest_is, word, number_found rest index index_is))
layout_by text command (Some rest) rest_is word None index_is is = none_made _ command is
layout_by text command None rest_is word (Some index) index_is is = absurd (let no : None ≡ Some index = index_is in cc)
layout_by text command None rest_is word None index_is is = none_made _ command is

same_bytes : (text other : List ℕ) → bytes_eq text other ≡ true → text ≡ other
same_bytes text other is = (bytes_eq-Decides text other).0 is

show_by : (text : List ℕ) (command : Command) (diagnostics lines layout : Bool) → bytes_eq text (codes "diagnostics") ≡ diagnostics
    → bytes_eq text (codes "lines") ≡ lines → bytes_eq (word_of text) (codes "layout") ≡ layout
    → Some command ≡ (if diagnostics then Some ShowDiagnostics
    else (if lines then Some ShowLines else (if layout then show_layout (rest_of text) else None)))
    → Writes (codes "show" ++ space ∷ text) command
show_by text command true lines layout first second third is =
    writes _ ShowDiagnostics command is (codes "show", text, refl, refl, same_bytes text (codes "diagnostics") first)
show_by text command false true layout first second third is =
    writes _ ShowLines command is (codes "show", text, refl, refl, same_bytes text (codes "lines") second)
show_by text command false false true first second third is =
    layout_by text command (rest_of text) refl (same_bytes (word_of text) (codes "layout") third)
    (option_and_then number_of (rest_of text)) refl is
show_by text command false false false first second third is = none_made _ command is

show_found : (text : List ℕ) (command : Command) → Some command ≡ show text → Writes (codes "show" ++ space ∷ text) command
unfolding show
show_found text command is =
    show_by text command (bytes_eq text (codes "diagnostics")) (bytes_eq text (codes "lines"))
    (bytes_eq (word_of text) (codes "layout")) refl refl refl is

-- ---- verbs

sense_found : (verb : Verb) (text : List ℕ) (command : Command) → HasSense (sense_of verb text) (Some command)
    → Writes (verb_word verb ++ space ∷ text) command
sense_found verbs.Log text command is = writes _ (Log text) command is (codes "log", text, refl, refl, refl)
sense_found verbs.AddMessage text command means =
    let first = numbered _ text command means in
    let spoken = stated verbs.AddMessage first.number 0 first.rest command first.means in
    add_message text command first.number first.rest first.has spoken.statement spoken.has spoken.is
sense_found verbs.RemoveMessage text command means =
    let last = by_number_found (λ index. edits.RemoveMessage index) text command means in
    writes _ (Change (edits.RemoveMessage last.number)) command last.is (codes "remove-message", text, refl, refl, last.spelled)
sense_found verbs.ChangeMessage text command means =
    let first = numbered _ text command means in
    change_message text command first.number first.rest first.has (rest_of first.rest) refl first.means
sense_found verbs.Renumber text command means =
    let first = numbered _ text command means in
    let last = by_number_found (λ n. edits.Renumber first.number n) first.rest command first.means in
    writes _ (Change (edits.Renumber first.number last.number)) command last.is
    (codes "renumber", text, refl, refl, (first.has.front, first.rest, first.has.parts, first.has.spelled, last.spelled))
sense_found verbs.AddSignal text command means =
    let first = numbered _ text command means in
    let second = numbered _ first.rest command first.means in
    let spoken = stated verbs.AddSignal first.number second.number second.rest command second.means in
    add_signal text command first.number second.number first.rest second.rest first.has second.has spoken.statement spoken.has
    spoken.is
sense_found verbs.RemoveSignal text command means =
    let first = numbered _ text command means in
    let so = if_some (is_name first.rest) (Change (edits.RemoveSignal first.number first.rest)) command first.means in
    writes _ (Change (edits.RemoveSignal first.number first.rest)) command so.1
    (codes "remove-signal", text, refl, refl, (first.has.front, first.rest, first.has.parts, first.has.spelled, (refl, so.0)))
sense_found verbs.ChangeSignal text command means =
    let first = numbered _ text command means in
    let spoken = stated verbs.ChangeSignal first.number 0 first.rest command first.means in
    change_signal text command first.number first.rest first.has spoken.statement spoken.has spoken.is
sense_found verbs.RenameSignal text command means =
    let first = numbered _ text command means in
    let old = word_of first.rest in
    let names = by_names_found (λ old new. edits.RenameSignal first.number old new) old (rest_of first.rest) command first.means in
    let parts = parts_are first.rest names.new names.rest_is in
    writes _ (Change (edits.RenameSignal first.number old names.new)) command names.is (
      codes "rename-signal",
      text,
      refl,
      refl,
      (
        first.has.front,
        first.rest,
        first.has.parts,
        first.has.spelled,
        (old, names.new, parts, (refl, names.old_named), (refl, names.new_named)),
      ),
    )
sense_found verbs.SetMux text command means =
    let spoken = stated verbs.SetMux 0 0 text command means in
    set_mux text command spoken.statement spoken.has spoken.is
sense_found verbs.SetValues text command means =
    let spoken = stated verbs.SetValues 0 0 text command means in
    set_values text command spoken.statement spoken.has spoken.is
sense_found verbs.SetTable text command means =
    let spoken = stated verbs.SetTable 0 0 text command means in
    set_table text command spoken.statement spoken.has spoken.is
sense_found verbs.SetAttribute text command means =
    let spoken = stated verbs.SetAttribute 0 0 text command means in
    set_attribute text command spoken.statement spoken.has spoken.is
sense_found verbs.DropMux text command means =
    let first = numbered _ text command means in
    let so = if_some (is_name first.rest) (Change (edits.DropMux first.number first.rest)) command first.means in
    writes _ (Change (edits.DropMux first.number first.rest)) command so.1
    (codes "drop-mux", text, refl, refl, (first.has.front, first.rest, first.has.parts, first.has.spelled, (refl, so.0)))
sense_found verbs.DropValues text command means =
    let first = numbered _ text command means in
    let so = if_some (is_name first.rest) (Change (edits.DropValues first.number first.rest)) command first.means in
    writes _ (Change (edits.DropValues first.number first.rest)) command so.1
    (codes "drop-values", text, refl, refl, (first.has.front, first.rest, first.has.parts, first.has.spelled, (refl, so.0)))
sense_found verbs.DropTable text command means =
    let so = if_some (is_name text) (Change (edits.DropTable text)) command means in
    writes _ (Change (edits.DropTable text)) command so.1 (codes "drop-table", text, refl, refl, (refl, so.0))
sense_found verbs.DropAttribute text command means =
    let first = numbered _ text command means in
    let so = if_some (is_string first.rest) (Change (edits.DropAttribute (inside first.rest) first.number)) command first.means in
    writes _ (Change (edits.DropAttribute (inside first.rest) first.number)) command so.1 (
      codes "drop-attribute",
      text,
      refl,
      refl,
      (
        first.has.front,
        first.rest,
        first.has.parts,
        first.has.spelled,
        string_found first.rest so.0,
      ),
    )
sense_found verbs.Show text command is = show_found text command is
sense_found verbs.Print text command is = none_made _ command is

alone_found : (verb : Verb) (command : Command) → HasSense (sense_alone verb) (Some command) → Writes (verb_word verb) command
alone_found verbs.Print command is = writes _ Print command is refl
alone_found verb command is = none_made _ command is

-- ---- lines

body_by : (body : List ℕ) (command : Command) (verb : Option Verb) (rest : Option (List ℕ)) → verb_of (word_of body) ≡ verb
    → rest_of body ≡ rest → HasSense (line_sense verb rest) (Some command) → Writes body command
body_by body command None rest verb_is rest_is means = none_made _ command means
body_by body command (Some verb) (Some text) verb_is rest_is means =
    let whole : body ≡ verb_word verb ++ space ∷ text =
    parts_are body text rest_is ∙ ap (λ word. word ++ space ∷ text) (verb_found (word_of body) verb verb_is) in
    subst (λ body. Writes body command) (sym whole) (sense_found verb text command means)
body_by body command (Some verb) None verb_is rest_is means =
    let whole : body ≡ verb_word verb = word_alone body rest_is ∙ verb_found (word_of body) verb verb_is in
    subst (λ body. Writes body command) (sym whole) (alone_found verb command means)

pub found : (line : List ℕ) (command : Command) → Means line (Some command) → IsScriptLine line command
unfolding Means
found line command means = record {
  body = body_of line;
  ends = body_found line;
  written = body_by (body_of line) command (verb_of (word_of (body_of line))) (rest_of (body_of line)) refl refl means;
}
