-- A line of a script asks for one command, or for none.
use Rattle.std.proofs.Common.{◌≡◌, ◌↔◌, ℕ, inl, inr, List, refl, sym, ap, ◌∙◌}
use Rattle.std.specs.Prelude.{Option, Some, None, option_and_then}
use Rattle.dbc_reader.specs.declared.statement.Statement.{Statement}
use Rattle.dbc_reader.specs.Grammar as grammar
use Rattle.dbc_reader.specs.Texts.{HasStatement, HasFirstFault}
use Rattle.dbc_read.specs.Laws.{ExactlyOne, NoSuch, OneReadingAlone}
use Rattle.can_frames.specs.LogLines.{body_of}
use Rattle.session_script.specs.Words.{word_of, rest_of, verb_of}
use Rattle.session_script.specs.Commands.{Command, Says, Sense, Plain, Reads, HasSense, line_sense, Means}
use Rattle.session_script.specs.ScriptGrammar.{IsScriptLine}
use Rattle.session_laws.specs.Meanings.{OneMeaning}

-- ---- the statement that a text is

statement_alone : (text : List ℕ) (one : ExactlyOne (HasStatement text)) → NoSuch (HasFirstFault grammar.one_statement text)
    → (stated : Option Statement) → Says text stated → stated ≡ Some one.0
statement_alone text one none (Some statement) states = ap Some (one.2 statement states)
statement_alone text one none None states = absurd (none states.0 states.1)

fault_alone : (text : List ℕ) → NoSuch (HasStatement text) → (stated : Option Statement) → Says text stated → stated ≡ None
fault_alone text none (Some statement) states = absurd (none statement states)
fault_alone text none None states = refl

one_stated : OneReadingAlone → (text : List ℕ) → ExactlyOne (Says text)
one_stated law text =
    elim (law text) [
      | inl has ↦ (Some has.0.0, has.0.1, statement_alone text has.0 has.1)
      | inr has ↦ (None, (has.0.0, has.0.1), fault_alone text has.1)
    ]

-- ---- what a line asks for

one_sense : OneReadingAlone → (sense : Sense) → ExactlyOne (HasSense sense)
one_sense law (Plain command) = (command, refl, λ other is. is)
one_sense law (Reads text command) =
    let one : ExactlyOne (Says text) = one_stated law text in (
      option_and_then command one.0,
      (one.0, one.1, refl),
      λ other is. is.2 ∙ ap (option_and_then command) (one.2 is.0 is.1),
    )

exactly_one : OneReadingAlone → (line : List ℕ) → ExactlyOne (Means line)
unfolding Means
exactly_one law line = one_sense law (line_sense (verb_of (word_of (body_of line))) (rest_of (body_of line)))

bad_line : (line : List ℕ) → ((command : Command) → Means line (Some command) ↔ IsScriptLine line command)
    → (meaning : Option Command) → Means line meaning → NoSuch (IsScriptLine line) → Means line None
bad_line line law None means none = means
bad_line line law (Some command) means none = absurd (none command ((law command).0 means))

not_written : (line : List ℕ) → ((command : Command) → Means line (Some command) ↔ IsScriptLine line command)
    → ExactlyOne (Means line) → Means line None → NoSuch (IsScriptLine line)
not_written line law one bad command written =
    let asks : Some command ≡ one.0 = one.2 (Some command) ((law command).1 written) in
    let no : Some command ≡ None = asks ∙ sym (one.2 None bad) in
    cc

pub one_meaning : OneReadingAlone
    → ((line : List ℕ) (command : Command) → Means line (Some command) ↔ IsScriptLine line command) → OneMeaning
one_meaning reading law line =
    let one : ExactlyOne (Means line) = exactly_one reading line in
    record {
      one = one;
      bad = (not_written line (law line) one, bad_line line (law line) one.0 one.1);
    }
