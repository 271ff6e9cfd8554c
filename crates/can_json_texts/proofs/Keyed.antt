-- A key, and its value after it.
use Rattle.std.proofs.Common.{◌≡◌, ℕ, Bool, true, false, if◌then◌else◌, List, [], ◌∷◌, ◌++◌, sym, ap, ◌∙◌, append_assoc, append-nil}
use Rattle.std.specs.Prelude.{codes}
use Rattle.json.specs.Json.{string, number, boolean}
use Rattle.json.specs.Print.{quoted, print_from}
use Rattle.can_json_texts.specs.Texts.{text_of, hex_pairs}
use Rattle.can_json_texts.specs.Members.{Member, Key, json_text, key_text, keyed, keyed_texts, hex_members, further_member}
use Rattle.can_json_texts.specs.Members.{further_members}
use Rattle.can_json_texts.specs.Members.{object_of, object_text}
use Rattle.can_json_texts.proofs.Objects.{string_printed, number_printed, objects_are_printed}
use Rattle.can_json_texts.proofs.Pushing.{pushed_then}

-- a key and a text after it
key_then : (key : Key) (text : List ℕ) → key_text key ++ text ≡ key.mark ∷ (quoted key.name ++ (codes ":" ++ text))
key_then key text = ap (λ (rest : List ℕ). key.mark ∷ rest) (append_assoc (quoted key.name) (codes ":") text)

after_key : (old mid new : List ℕ) (key : Key) (text : List ℕ) → new ≡ mid ++ text → mid ≡ old ++ key_text key
    → new ≡ old ++ (key.mark ∷ (quoted key.name ++ (codes ":" ++ text)))
after_key old mid new key text last begun =
    pushed_then old mid new (key_text key) text last begun ∙ ap (λ (rest : List ℕ). old ++ rest) (key_then key text)

pub number_pushed : (old mid new : List ℕ) (key : Key) (text : List ℕ) → new ≡ mid ++ text → mid ≡ old ++ key_text key
    → new ≡ old ++ keyed key (number text)
number_pushed old mid new key text last begun =
    after_key old mid new key text last begun
    ∙ ap (λ (value : List ℕ). old ++ (key.mark ∷ (quoted key.name ++ (codes ":" ++ value)))) (sym (number_printed text))

pub string_pushed : (old mid new : List ℕ) (key : Key) (text : List ℕ) → new ≡ mid ++ quoted text → mid ≡ old ++ key_text key
    → new ≡ old ++ keyed key (string text)
string_pushed old mid new key text last begun =
    after_key old mid new key (quoted text) last begun
    ∙ ap (λ (value : List ℕ). old ++ (key.mark ∷ (quoted key.name ++ (codes ":" ++ value)))) (sym (string_printed text))

pub texts_pushed : (old mid new : List ℕ) (key : Key) (bytes : List ℕ)
    → new ≡ mid ++ (quoted (text_of bytes) ++ further_members (hex_members key.name (hex_pairs bytes)))
    → mid ≡ old ++ key_text key → new ≡ old ++ keyed_texts key bytes
texts_pushed old mid new key bytes last begun =
    let pairs = further_members (hex_members key.name (hex_pairs bytes)) in
    after_key old mid new key (quoted (text_of bytes) ++ pairs) last begun
    ∙ ap (λ (value : List ℕ). old ++ (key.mark ∷ (quoted key.name ++ (codes ":" ++ (value
    ++ pairs))))) (sym (string_printed (text_of bytes)))
    ∙ ap (λ (rest : List ℕ). old ++ (key.mark ∷ rest))
    (sym (append_assoc (quoted key.name) (codes ":" ++ json_text (string (text_of bytes))) pairs))

-- one member after others
pub one_further : (old mid new name text : List ℕ) → new ≡ mid ++ quoted text
    → mid ≡ old ++ key_text (record { mark = 44; name = name }) → new ≡ old ++ further_members ((name, string text) ∷ [])
one_further old mid new name text last begun =
    string_pushed old mid new (record { mark = 44; name = name }) text last begun
    ∙ ap (λ (rest : List ℕ). old ++ rest) (sym (append-nil (keyed (record { mark = 44; name = name }) (string text))))

-- an object as a member after others
pub object_pushed : (old mid new name : List ℕ) (members : List Member) → new ≡ mid ++ object_text members
    → mid ≡ old ++ key_text (record { mark = 44; name = name }) → new ≡ old ++ further_members ((name, object_of members) ∷ [])
object_pushed old mid new name members last begun =
    after_key old mid new (record { mark = 44; name = name }) (object_text members) last begun
    ∙ ap (λ (value : List ℕ). old ++ (44 ∷ (quoted name ++ (codes ":" ++ value)))) (sym (objects_are_printed members))
    ∙ ap (λ (text : List ℕ). old ++ text) (sym (append-nil (further_member (name, object_of members))))

pub flag_pushed : (old mid new : List ℕ) (key : Key) (flag : Bool) → new ≡ mid ++ (if flag then codes "true" else codes "false")
    → mid ≡ old ++ key_text key → new ≡ old ++ keyed key (boolean flag)
unfolding print_from
flag_pushed old mid new key true last begun = after_key old mid new key (codes "true") last begun
flag_pushed old mid new key false last begun = after_key old mid new key (codes "false") last begun
