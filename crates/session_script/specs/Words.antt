-- The words of a script line. They are separated by single blanks.
use Rattle.std.specs.Prelude.{ℕ, not, ◌&&◌, ◌==◌, nat_le, List, [], ◌∷◌, take, drop, Option, Some, None, codes, if◌then◌else◌}
use Rattle.std.specs.List.{prefix_len, find}
use Rattle.std.specs.Str.{bytes_eq}
use Rattle.std.specs.Str.Parse.{digits_value}
use Rattle.dbc_values.specs.Lexical.{space, is_digits}
use Rattle.can_frames.specs.Frames.{following_first}
use Rattle.session_script.specs.declared.verb.Verb.{Verb}
use Rattle.session_script.specs.declared.verb.Verb.TheVariants as verbs

-- how many bytes are before the first blank
abbrev pub word_len : List ℕ → ℕ
word_len text = prefix_len (λ b. not (b == space)) text

abbrev pub word_of : List ℕ → List ℕ
word_of text = take (word_len text) text

-- all that is after the first blank, if there is one
abbrev pub rest_of : List ℕ → Option (List ℕ)
rest_of text = following_first (drop (word_len text) text)

-- the greatest index, message ID and length that a script can write
abbrev pub greatest_number : ℕ
greatest_number = 4294967295

-- the number that digits alone spell
unfoldable pub number_of : List ℕ → Option ℕ
number_of word = if is_digits word && nat_le (digits_value 10 word) greatest_number then Some (digits_value 10 word) else None

-- ---- verbs

abbrev pub verb_word : Verb → List ℕ
verb_word verbs.Log = codes "log"
verb_word verbs.AddMessage = codes "add-message"
verb_word verbs.RemoveMessage = codes "remove-message"
verb_word verbs.ChangeMessage = codes "change-message"
verb_word verbs.Renumber = codes "renumber"
verb_word verbs.AddSignal = codes "add-signal"
verb_word verbs.RemoveSignal = codes "remove-signal"
verb_word verbs.ChangeSignal = codes "change-signal"
verb_word verbs.RenameSignal = codes "rename-signal"
verb_word verbs.SetMux = codes "set-mux"
verb_word verbs.SetValues = codes "set-values"
verb_word verbs.SetTable = codes "set-table"
verb_word verbs.SetAttribute = codes "set-attribute"
verb_word verbs.DropMux = codes "drop-mux"
verb_word verbs.DropValues = codes "drop-values"
verb_word verbs.DropTable = codes "drop-table"
verb_word verbs.DropAttribute = codes "drop-attribute"
verb_word verbs.Show = codes "show"
verb_word verbs.Print = codes "print"

abbrev pub all_verbs : List Verb
all_verbs =
    verbs.Log ∷ verbs.AddMessage ∷ verbs.RemoveMessage ∷ verbs.ChangeMessage ∷ verbs.Renumber ∷ verbs.AddSignal ∷ verbs.RemoveSignal
    ∷ verbs.ChangeSignal
    ∷ verbs.RenameSignal ∷ verbs.SetMux ∷ verbs.SetValues ∷ verbs.SetTable ∷ verbs.SetAttribute ∷ verbs.DropMux ∷ verbs.DropValues
    ∷ verbs.DropTable
    ∷ verbs.DropAttribute ∷ verbs.Show ∷ verbs.Print ∷ []

-- the verb that a word is
unfoldable pub verb_of : List ℕ → Option Verb
verb_of word = find (λ verb. bytes_eq (verb_word verb) word) all_verbs
