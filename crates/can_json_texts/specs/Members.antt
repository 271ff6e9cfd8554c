-- Objects of JSON by their members, and their texts without blanks.
-- Source: RFC 8259, "Objects" and "Strings"; the definition of JSON is that of the crate `json`.
use Rattle.std.specs.Prelude.{◌≡◌, ℕ, List, [], ◌∷◌, ◌++◌, Option, Some, None, codes}
use Rattle.std.specs.List.{flat_map}
use Rattle.json.specs.Json.{Json, Members, object, string, no_members, member}
use Rattle.json.specs.Tree.{json_tokens}
use Rattle.json.specs.Print.{print, quoted}
use Rattle.can_json_texts.specs.Texts.{text_of, hex_pairs}

-- ---- objects

-- a key and its value
abbrev pub Member : Type 0
Member = List ℕ × Json

abbrev pub members_of : List Member → Members
members_of [] = no_members
members_of (one ∷ members) = member one.0 one.1 (members_of members)

abbrev pub object_of : List Member → Json
object_of members = object (members_of members)

-- ---- texts

-- a value without blanks
abbrev pub json_text : Json → List ℕ
json_text value = print (json_tokens value)

-- `"key":value`
abbrev pub member_text : Member → List ℕ
member_text one = quoted one.0 ++ (codes ":" ++ json_text one.1)

-- `,"key":value`
abbrev pub further_member : Member → List ℕ
further_member one = codes "," ++ member_text one

-- members after others
abbrev pub further_members : List Member → List ℕ
further_members members = flat_map further_member members

-- `"key":value,"key":value`
abbrev pub members_text : List Member → List ℕ
members_text [] = []
members_text (one ∷ members) = member_text one ++ further_members members

abbrev pub object_text : List Member → List ℕ
object_text members = codes "{" ++ (members_text members ++ codes "}")

-- ---- keys

-- a key where it is written: after `{` as the first of an object, or after `,`
pub record Key : Type 0 where
  pub mark : ℕ
  pub name : List ℕ

-- `,"key":`
abbrev pub key_text : Key → List ℕ
key_text key = key.mark ∷ (quoted key.name ++ codes ":")

-- `,"key":value`
abbrev pub keyed : Key → Json → List ℕ
keyed key value = key.mark ∷ member_text (key.name, value)

-- ---- bytes as members

abbrev pub hex_key : List ℕ → List ℕ
hex_key key = key ++ codes "_hex"

-- `"key_hex":"B043"`
abbrev pub hex_members : List ℕ → Option (List ℕ) → List Member
hex_members key None = []
hex_members key (Some pairs) = (hex_key key, string pairs) ∷ []

-- the text of bytes, and their pairs if the text isn't the bytes themselves
abbrev pub text_members : List ℕ → List ℕ → List Member
text_members key bytes = (key, string (text_of bytes)) ∷ hex_members key (hex_pairs bytes)

-- `,"key":"text"`, and the pairs
abbrev pub keyed_texts : Key → List ℕ → List ℕ
keyed_texts key bytes = key.mark ∷ members_text (text_members key.name bytes)

-- ---- laws

-- an object's text is that of its members
abbrev pub ObjectsArePrinted : Type 0
ObjectsArePrinted = (members : List Member) → json_text (object_of members) ≡ object_text members
