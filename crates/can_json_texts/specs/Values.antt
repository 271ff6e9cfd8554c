-- Values of JSON by their parts, and their tokens. Source: RFC 8259, "Values", "Objects" and "Arrays"; the definition of JSON is
-- that of the crate `json`.
use Rattle.std.specs.Prelude.{ℕ, List, [], ◌∷◌, ◌++◌, Option, Some, None, map}
use Rattle.std.specs.List.{flat_map}
use Rattle.json.specs.Token.{Token, key}
use Rattle.json.specs.Json.{Json, Items, no_items, item, array, null}
use Rattle.json.specs.Tree.{json_tokens}
use Rattle.can_json_texts.specs.Members.{Member}

abbrev pub items_of : List Json → Items
items_of [] = no_items
items_of (one ∷ values) = item one (items_of values)

abbrev pub array_of : List Json → Json
array_of values = array (items_of values)

-- a value, or null if there is none
abbrev pub or_null : {A : Type 0} → (A → Json) → Option A → Json
or_null json_of None = null
or_null json_of (Some one) = json_of one

-- a key and its value
abbrev pub member_tokens : Member → List Token
member_tokens one = key one.0 ∷ json_tokens one.1

-- members in order, without the brackets of their object
abbrev pub tokens_of : List Member → List Token
tokens_of members = flat_map member_tokens members
