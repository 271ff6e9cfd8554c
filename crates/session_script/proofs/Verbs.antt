-- The verb of a line.
use Rattle.std.proofs.Common.{◌≡◌, ℕ, Bool, true, false, cond, List, [], ◌∷◌, ◌++◌, Option, Some, None, refl, sym, ap, ◌∙◌}
use Rattle.std.specs.List.{find}
use Rattle.std.specs.Str.{bytes_eq}
use Rattle.std.proofs.lemmas.Slice.Eq.{bytes_eq-Decides}
use Rattle.dbc_values.specs.Lexical.{space}
use Rattle.session_script.specs.declared.verb.Verb.{Verb}
use Rattle.session_script.specs.declared.verb.Verb.TheVariants as verbs
use Rattle.session_script.specs.Words.{word_of, rest_of, verb_word, all_verbs, verb_of}
use Rattle.session_script.specs.Commands.{Command, HasSense, sense_of, line_sense}
use Rattle.session_script.proofs.Spaces.{IsUnbroken, some_same, word_is, rest_is}

find_by : {A : Type 0} (p : A → Bool) (first : A) (xs : List A) (x : A) (test : Bool) → p first ≡ test
    → cond test (Some first) (find p xs) ≡ Some x → (find p xs ≡ Some x → p x ≡ true) → p x ≡ true
find_by p first xs x true is found more = ap p (sym (some_same first x found)) ∙ is
find_by p first xs x false is found more = more found

find_passes : {A : Type 0} (p : A → Bool) (xs : List A) (x : A) → find p xs ≡ Some x → p x ≡ true
find_passes p [] x found = absurd (let no : None ≡ Some x = found in cc)
find_passes p (first ∷ xs) x found = find_by p first xs x (p first) refl found (find_passes p xs x)

pub verb_found : (word : List ℕ) (verb : Verb) → verb_of word ≡ Some verb → word ≡ verb_word verb
unfolding verb_of
verb_found word verb found =
    sym ((bytes_eq-Decides (verb_word verb) word).0 (find_passes (λ verb. bytes_eq (verb_word verb) word) all_verbs verb found))

verb_there : (verb : Verb) → verb_of (verb_word verb) ≡ Some verb
unfolding verb_of
verb_there verbs.Log = refl
verb_there verbs.AddMessage = refl
verb_there verbs.RemoveMessage = refl
verb_there verbs.ChangeMessage = refl
verb_there verbs.Renumber = refl
verb_there verbs.AddSignal = refl
verb_there verbs.RemoveSignal = refl
verb_there verbs.ChangeSignal = refl
verb_there verbs.RenameSignal = refl
verb_there verbs.SetMux = refl
verb_there verbs.SetValues = refl
verb_there verbs.SetTable = refl
verb_there verbs.SetAttribute = refl
verb_there verbs.DropMux = refl
verb_there verbs.DropValues = refl
verb_there verbs.DropTable = refl
verb_there verbs.DropAttribute = refl
verb_there verbs.Show = refl
verb_there verbs.Print = refl

verb_unbroken : (verb : Verb) → IsUnbroken (verb_word verb)
verb_unbroken verbs.Log = search
verb_unbroken verbs.AddMessage = search
verb_unbroken verbs.RemoveMessage = search
verb_unbroken verbs.ChangeMessage = search
verb_unbroken verbs.Renumber = search
verb_unbroken verbs.AddSignal = search
verb_unbroken verbs.RemoveSignal = search
verb_unbroken verbs.ChangeSignal = search
verb_unbroken verbs.RenameSignal = search
verb_unbroken verbs.SetMux = search
verb_unbroken verbs.SetValues = search
verb_unbroken verbs.SetTable = search
verb_unbroken verbs.SetAttribute = search
verb_unbroken verbs.DropMux = search
verb_unbroken verbs.DropValues = search
verb_unbroken verbs.DropTable = search
verb_unbroken verbs.DropAttribute = search
verb_unbroken verbs.Show = search
verb_unbroken verbs.Print = search

-- what a line asks for by its verb and the text after the blank
pub line_there : (verb : Verb) (body front rest : List ℕ) (meaning : Option Command) → body ≡ front ++ space ∷ rest
    → front ≡ verb_word verb → HasSense (sense_of verb rest) meaning
    → HasSense (line_sense (verb_of (word_of body)) (rest_of body)) meaning
line_there verb body front rest meaning parts word means =
    let whole : body ≡ verb_word verb ++ space ∷ rest = parts ∙ ap (λ front. front ++ space ∷ rest) word in
    let verb_is : verb_of (word_of body) ≡ Some verb =
    ap (λ body. verb_of (word_of body)) whole ∙ ap verb_of (word_is (verb_word verb) rest (verb_unbroken verb)) ∙ verb_there verb in
    let rest_so : rest_of body ≡ Some rest = ap rest_of whole ∙ rest_is (verb_word verb) rest (verb_unbroken verb) in
    rw (verb_is, rest_so) means
