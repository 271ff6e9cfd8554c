-- Texts of one line. Source: RFC 8259, "Strings" (control characters are escaped) and "Character Encoding".
use Rattle.std.specs.Prelude.{◌≤◌, ℕ, List, ⊤}
use Rattle.std.specs.List.{AllByRecursion}
use Rattle.std.specs.Str.{IsUtf8}
use Rattle.json.specs.Json.{Json, null, boolean, number, string, array, object, Items, no_items, item, Members, no_members, member}

-- no control byte, so no line feed
abbrev pub AreVisible : List ℕ → Type 0
AreVisible text = AllByRecursion (λ (b : ℕ). 32 ≤ b) text

-- it is UTF-8, and within one line
pub record IsOneLine (text : List ℕ) : Type 0 where
  pub utf8 : IsUtf8 text
  pub visible : AreVisible text

-- all keys and strings are UTF-8
abbrev mutual
  pub HasTexts : Json → Type 0
  HasTexts null = ⊤
  HasTexts (boolean b) = ⊤
  HasTexts (number digits) = ⊤
  HasTexts (string text) = IsUtf8 text
  HasTexts (array items) = ItemsHaveTexts items
  HasTexts (object members) = MembersHaveTexts members

  pub ItemsHaveTexts : Items → Type 0
  ItemsHaveTexts no_items = ⊤
  ItemsHaveTexts (item value items) = HasTexts value × ItemsHaveTexts items

  pub MembersHaveTexts : Members → Type 0
  MembersHaveTexts no_members = ⊤
  MembersHaveTexts (member key value members) = IsUtf8 key × (HasTexts value × MembersHaveTexts members)
