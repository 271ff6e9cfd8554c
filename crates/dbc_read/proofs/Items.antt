-- What the items of a layout are printed as: the tokens of each, by their kinds and bytes.
pub mod Lexemes
pub mod Digits
pub mod Decimals
use Rattle.std.proofs.Common.{◌≡◌, ℕ, suc, ◌<◌, ◌^◌, pos, negsuc, Bool, true, false, cond, ◌||◌, ◌&&◌, List, [], ◌∷◌, ◌++◌}
use Rattle.std.specs.Prelude.{codes, decimal, IsTrue}
use Rattle.std.specs.List.{flat_map}
use Rattle.dbc_values.specs.Decimals.{IsDecimal}
use Rattle.dbc_values.specs.Pieces.{is_piece, is_string}
use Rattle.dbc_values.specs.Lexical.{quoted, is_text, is_word, is_name, is_number, is_mark}
use Rattle.dbc_records.specs.Layout.{Item, Word, Mark, Name, Symbol, Text, Whole, Int, Number, Switch, Muxed, Both, Order, Piece}
use Rattle.dbc_records.specs.Layout.{Space, Tab, LineEnd, Is, Layout, item_text, layout_text, items_of, magnitude_text}
use Rattle.dbc_values.specs.Names.{is_symbol}
use Rattle.dbc_tokens.specs.declared.token.Kind.{Kind}
use Rattle.dbc_tokens.specs.declared.token.Kind.TheVariants as kinds
use Rattle.dbc_tokens.specs.Tokens.{Token, End, IsToken, HasTokens}
use Rattle.dbc_reader.specs.Forms.{Part, Says, Spelled, ◌▸▸◌}

-- ---- the tokens of an item

pub record Lexeme : Type 0 where
  pub kind : Kind
  pub bytes : List ℕ

abbrev pub lexeme : Kind → List ℕ → Lexeme
lexeme kind bytes = record { kind = kind; bytes = bytes }

abbrev pub sign_lexemes : Bool → List Lexeme
sign_lexemes negative = cond negative (lexeme kinds.Mark (codes "-") ∷ []) []

abbrev pub kind_of_piece : List ℕ → Kind
kind_of_piece bytes = cond (is_string bytes) kinds.Text (cond (is_word bytes) kinds.Word (cond (is_number bytes) kinds.Number
    kinds.Mark))

abbrev pub lexemes : Item → List Lexeme
lexemes (Word word) = lexeme kinds.Word word ∷ []
lexemes (Mark mark) = lexeme kinds.Mark (mark ∷ []) ∷ []
lexemes (Name name) = lexeme kinds.Word name ∷ []
lexemes (Symbol word) = lexeme kinds.Word word ∷ []
lexemes (Text text) = lexeme kinds.Text (quoted text) ∷ []
lexemes (Whole n) = lexeme kinds.Number (decimal n) ∷ []
lexemes (Int (pos n)) = lexeme kinds.Number (decimal n) ∷ []
lexemes (Int (negsuc n)) = lexeme kinds.Mark (codes "-") ∷ lexeme kinds.Number (decimal (suc n)) ∷ []
lexemes (Number d) = sign_lexemes d.negative ++ lexeme kinds.Number (magnitude_text (decimal d.mantissa) d.exponent) ∷ []
lexemes Switch = lexeme kinds.Word (codes "M") ∷ []
lexemes (Muxed n) = lexeme kinds.Word (codes "m" ++ decimal n) ∷ []
lexemes (Both n) = lexeme kinds.Word (codes "m" ++ (decimal n ++ codes "M")) ∷ []
lexemes (Order intel) = lexeme kinds.Number (cond intel (codes "1") (codes "0")) ∷ []
lexemes (Piece bytes) = lexeme (kind_of_piece bytes) bytes ∷ []

-- each is a token of its kind
abbrev pub AreTokens : List Lexeme → Type 0
AreTokens [] = Unit {0}
AreTokens (l ∷ ls) = IsToken l.kind l.bytes × AreTokens ls

-- tokens with these kinds and bytes
abbrev pub HaveLexemes : List Lexeme → List Token → Type 0
HaveLexemes [] tokens = tokens ≡ []
HaveLexemes (l ∷ ls) [] = ⊥
HaveLexemes (l ∷ ls) (t ∷ tokens) = (t.kind ≡ l.kind) × (t.bytes ≡ l.bytes) × HaveLexemes ls tokens

-- the item's text is that of its tokens, and they spell the item
pub record Printed (item : Item) : Type 0 where
  pub text : item_text item ≡ flat_map (λ (l : Lexeme). l.bytes) (lexemes item)
  pub are_tokens : AreTokens (lexemes item)
  pub means : (tokens : List Token) → HaveLexemes (lexemes item) tokens → Says item tokens

-- what may be printed
abbrev pub IsItem : Item → Type 0
IsItem (Word word) = IsTrue (is_word word)
IsItem (Mark mark) = IsTrue (is_mark mark)
IsItem (Name name) = IsTrue (is_name name)
IsItem (Symbol word) = IsTrue (is_symbol word)
IsItem (Text text) = IsTrue (is_text text)
IsItem (Whole n) = n < 2 ^ 64
IsItem (Int (pos n)) = n < 2 ^ 64
IsItem (Int (negsuc n)) = n < 2 ^ 63
IsItem (Number d) = IsDecimal d
IsItem Switch = Unit {0}
IsItem (Muxed n) = n < 2 ^ 64
IsItem (Both n) = n < 2 ^ 64
IsItem (Order intel) = Unit {0}
IsItem (Piece bytes) = IsTrue (is_piece bytes)

-- ---- layouts

-- the items of a layout are printed so
abbrev pub ArePrinted : Layout → Type 0
ArePrinted [] = Unit {0}
ArePrinted (Space ∷ layout) = ArePrinted layout
ArePrinted (Tab ∷ layout) = ArePrinted layout
ArePrinted (LineEnd ∷ layout) = ArePrinted layout
ArePrinted (Is item ∷ layout) = Printed item × ArePrinted layout

-- a mark or a text ends where it ends, whatever is after it
abbrev pub is_closed : Item → Bool
is_closed (Mark mark) = true
is_closed (Text text) = true
is_closed item = false

-- what is here ends a word or a number before it
abbrev pub ends_item : Layout → Bool
ends_item [] = true
ends_item (Is item ∷ layout) = is_closed item
ends_item (blank ∷ layout) = true

-- each item is separated from what is after it
abbrev pub are_apart : Layout → Bool
are_apart [] = true
are_apart (Is item ∷ layout) = (is_closed item || ends_item layout) && are_apart layout
are_apart (blank ∷ layout) = are_apart layout

-- the tokens of all its items, in order
abbrev pub all_lexemes : Layout → List Lexeme
all_lexemes layout = flat_map lexemes (items_of layout)

-- the text of a layout has the tokens of its items
pub record LayoutTokens (line after : ℕ) (layout : Layout) : Type 0 where
  pub tokens : List Token
  pub at : ℕ
  pub has : HasTokens line after (layout_text layout) (tokens ▸▸ End at)
  pub have : HaveLexemes (all_lexemes layout) tokens

-- ---- what tokens of a layout spell

-- tokens that the items of the layout are printed as spell these parts
pub record Shows (layout : Layout) (parts : List Part) : Type 0 where
  pub shows : (tokens : List Token) → HaveLexemes (all_lexemes layout) tokens → Spelled parts tokens
