-- Objects whose keys are unique. Source: RFC 8259, "Objects".
use Rattle.std.specs.Prelude.{ℕ, List, [], ◌∷◌, ⊤}
use Rattle.std.specs.List.{IsDistinct}
use Rattle.std.specs.Str.{bytes_eq}
use Rattle.json.specs.Json.{Json, null, boolean, number, string, array, object, Items, no_items, item, Members, no_members, member}

-- the keys of an object, in order
abbrev pub keys_in : Members → List (List ℕ)
keys_in no_members = []
keys_in (member key value members) = key ∷ keys_in members

-- no object has a key twice, including objects within others
abbrev mutual
  pub HasUniqueKeys : Json → Type 0
  HasUniqueKeys null = ⊤
  HasUniqueKeys (boolean b) = ⊤
  HasUniqueKeys (number digits) = ⊤
  HasUniqueKeys (string text) = ⊤
  HasUniqueKeys (array items) = ItemsHaveUniqueKeys items
  HasUniqueKeys (object members) = IsDistinct bytes_eq (keys_in members) × MembersHaveUniqueKeys members

  pub ItemsHaveUniqueKeys : Items → Type 0
  ItemsHaveUniqueKeys no_items = ⊤
  ItemsHaveUniqueKeys (item value items) = HasUniqueKeys value × ItemsHaveUniqueKeys items

  pub MembersHaveUniqueKeys : Members → Type 0
  MembersHaveUniqueKeys no_members = ⊤
  MembersHaveUniqueKeys (member key value members) = HasUniqueKeys value × MembersHaveUniqueKeys members
