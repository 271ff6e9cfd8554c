-- The items by which parts are counted are the parts of the form of a statement, one after another.
use Rattle.std.specs.Prelude.{◌≡◌, ◌⊎◌, ℕ, Bool, true, false, not, ◌&&◌, ◌||◌, List, [], ◌∷◌, ◌++◌, IsTrue}
use Rattle.dbc_records.specs.Layout.{Word, Mark, Piece}
use Rattle.dbc_tokens.specs.Tokens.{Token}
use Rattle.dbc_reader.specs.Forms.{Part as FormPart, Is, Perhaps, SaysPart, Spelled}
use Rattle.dbc_ranges.specs.Ranges.{Item, is_sign, begins_number, items_of}

-- the item has these tokens
abbrev pub IsItem : Item → List Token → Type 0
IsItem item tokens =
    ((tokens ≡ item.first ∷ []) × (item.last ≡ item.first)) ⊎ (tokens ≡ item.first ∷ item.last ∷ [])

-- one item with these tokens, or none
abbrev pub AreOne : List Item → List Token → Type 0
AreOne [] tokens = tokens ≡ []
AreOne (item ∷ []) tokens = IsItem item tokens
AreOne (item ∷ other ∷ items) tokens = ⊥

-- the items spell these parts, one after another
abbrev pub StatedBy : List FormPart → List Item → Type 0
StatedBy [] items = items ≡ []
StatedBy (part ∷ parts) items =
    (own others : List Item) × (tokens : List Token) × (items ≡ own ++ others) × AreOne own tokens × SaysPart part tokens
    × StatedBy parts others

-- a mark that begins no number
abbrev pub begins_with_mark : List FormPart → Bool
begins_with_mark (Is (Mark mark) ∷ parts) = not (begins_number (mark ∷ []))
begins_with_mark parts = false

-- after a mark `+` or `-` there is another mark, so that it isn't the sign of a number, and no word is a sign
abbrev pub signs_apart : List FormPart → Bool
signs_apart [] = true
signs_apart (Is (Mark mark) ∷ parts) = (not (is_sign (mark ∷ [])) || begins_with_mark parts) && signs_apart parts
signs_apart (Is (Word word) ∷ parts) = not (is_sign word) && signs_apart parts
signs_apart (Is (Piece piece) ∷ parts) = false
signs_apart (Perhaps mark ∷ parts) = not (is_sign (mark ∷ [])) && signs_apart parts
signs_apart (part ∷ parts) = signs_apart parts

-- tokens that spell a form are items that spell it, whatever follows
abbrev pub ItemsSayParts : Type 0
ItemsSayParts =
    (parts : List FormPart) (tokens others : List Token) → IsTrue (signs_apart parts) → Spelled parts tokens
    → (items : List Item) × (items_of (tokens ++ others) ≡ items ++ items_of others) × StatedBy parts items
