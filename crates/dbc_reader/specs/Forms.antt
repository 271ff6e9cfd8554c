-- What tokens spell: the items of a statement, one after another. Source: the DBC file format, "General Definitions" (C_identifier,
-- char_string, signed_integer, unsigned_integer, double). That numbers are judged by their value is the profile of candesk.
use Rattle.std.specs.Prelude.{◌≡◌, ℕ, ℤ, pos, neg_ℤ, Bool, true, false, IsTrue, List, [], ◌∷◌, ◌++◌, map, codes, ◌⊎◌, if◌then◌else◌}
use Rattle.std.specs.Str.Parse.{digits_value}
use Rattle.dbc_values.specs.Lexical.{quoted, is_text, is_name, is_digits, is_number}
use Rattle.dbc_values.specs.Numbers.{mantissa_of, exponent_of, IsWholeNumber}
use Rattle.dbc_values.specs.Decimals.{Decimal, SpellsDecimal}
use Rattle.dbc_values.specs.Names.{is_symbol}
use Rattle.dbc_values.specs.Pieces.{is_piece}
use Rattle.dbc_records.specs.Layout.{Item, Word, Mark, Name, Symbol, Text, Whole, Int, Number, Switch, Muxed, Both, Order, Piece}
use Rattle.dbc_records.specs.Layout.{Layout, items_of}
use Rattle.dbc_tokens.specs.Tokens.{Token, Cut, ◌▸◌}

-- ---- one item

-- one token, whose bytes are so
abbrev pub IsOne : (List ℕ → Type 0) → List Token → Type 0
IsOne AreSo tokens = (t : Token) × (tokens ≡ t ∷ []) × AreSo t.bytes

-- no sign or a `+`, or a `-` for a negative number
abbrev pub IsSign : Bool → List Token → Type 0
IsSign false tokens = (tokens ≡ []) ⊎ IsOne (λ bytes. bytes ≡ codes "+") tokens
IsSign true tokens = IsOne (λ bytes. bytes ≡ codes "-") tokens

-- a sign or none, and a number whose bytes are so
abbrev pub IsSigned : (Bool → List ℕ → Type 0) → List Token → Type 0
IsSigned AreSo tokens =
    (negative : Bool) × (sign number : List Token) × (tokens ≡ sign ++ number) × IsSign negative sign
    × IsOne (AreSo negative) number

-- the bytes are a number whose value is this whole number
abbrev pub SpellsNumber : List ℕ → ℕ → Type 0
SpellsNumber bytes n = IsTrue (is_number bytes) × IsWholeNumber (mantissa_of bytes) (exponent_of bytes) n

abbrev pub signed : Bool → ℕ → ℤ
signed negative n = if negative then neg_ℤ (pos n) else pos n

-- digits after an `m`, and this after them
abbrev pub SpellsTag : List ℕ → ℕ → List ℕ → Type 0
SpellsTag bytes n following = (digits : List ℕ) × (bytes ≡ codes "m" ++ (digits ++ following)) × IsTrue (is_digits digits)
    × (digits_value 10 digits ≡ n)

-- the tokens spell the item
abbrev pub Says : Item → List Token → Type 0
Says (Word word) tokens = IsOne (λ bytes. bytes ≡ word) tokens
Says (Mark mark) tokens = IsOne (λ bytes. bytes ≡ mark ∷ []) tokens
Says (Name name) tokens = IsOne (λ bytes. (bytes ≡ name) × IsTrue (is_name name)) tokens
Says (Symbol word) tokens = IsOne (λ bytes. (bytes ≡ word) × IsTrue (is_symbol word)) tokens
Says (Text text) tokens = IsOne (λ bytes. (bytes ≡ quoted text) × IsTrue (is_text text)) tokens
Says (Whole n) tokens = IsOne (λ bytes. SpellsNumber bytes n) tokens
Says (Int z) tokens = IsSigned (λ negative bytes. (n : ℕ) × SpellsNumber bytes n × (z ≡ signed negative n)) tokens
Says (Number d) tokens = IsSigned (λ negative bytes. SpellsDecimal negative bytes d) tokens
Says Switch tokens = IsOne (λ bytes. bytes ≡ codes "M") tokens
Says (Muxed n) tokens = IsOne (λ bytes. SpellsTag bytes n []) tokens
Says (Both n) tokens = IsOne (λ bytes. SpellsTag bytes n (codes "M")) tokens
Says (Order intel) tokens = IsOne (λ bytes. SpellsNumber bytes (if intel then 1 else 0)) tokens
Says (Piece piece) tokens = IsOne (λ bytes. (bytes ≡ piece) × IsTrue (is_piece piece)) tokens

-- ---- parts of a form

pub data Part : Type 0 where
  Is : Item → Part
  -- a mark that may be missing
  Perhaps : ℕ → Part
  -- a number without a sign
  Unsigned : Decimal → Part

abbrev pub SaysPart : Part → List Token → Type 0
SaysPart (Is item) tokens = Says item tokens
SaysPart (Perhaps mark) tokens = (tokens ≡ []) ⊎ Says (Mark mark) tokens
SaysPart (Unsigned d) tokens = IsOne (λ bytes. SpellsDecimal false bytes d) tokens

-- the tokens spell these parts, one after another
abbrev pub Spelled : List Part → List Token → Type 0
Spelled [] tokens = tokens ≡ []
Spelled (part ∷ parts) tokens = (front rest : List Token) × (tokens ≡ front ++ rest) × SaysPart part front × Spelled parts rest

-- the items that are printed
abbrev pub of_layout : Layout → List Part
of_layout layout = map Is (items_of layout)

-- ---- tokens before others

-- these tokens, and after them those
infixr 20 ◌▸▸◌
abbrev pub ◌▸▸◌ : List Token → Cut → Cut
[] ▸▸ cut = cut
(t ∷ tokens) ▸▸ cut = t ▸ (tokens ▸▸ cut)
