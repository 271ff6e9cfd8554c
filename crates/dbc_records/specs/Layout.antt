-- Layouts: what is printed, as blanks and items. An item is one token of a statement, or two if a number has a sign.
use Rattle.std.specs.Prelude.{ℕ, ℤ, pos, negsuc, suc, ◌+◌, ◌-◌, nat_le, Bool, ◌&&◌, List, [], ◌∷◌, ◌++◌, length, take, drop}
use Rattle.std.specs.Prelude.{replicate, codes, decimal, if◌then◌else◌}
use Rattle.std.specs.List.{flat_map}
use Rattle.std.specs.Fmt.{signed_decimal}
use Rattle.dbc_values.specs.Lexical.{point, digit_zero, quoted}
use Rattle.dbc_values.specs.Decimals.{Decimal}

-- ---- items

pub data Item : Type 0 where
  -- a keyword, or a word that names a form, such as `ENUM`
  Word : List ℕ → Item
  Mark : ℕ → Item
  -- a name that represents something of the database
  Name : List ℕ → Item
  -- a word of the list of symbols
  Symbol : List ℕ → Item
  Text : List ℕ → Item
  Whole : ℕ → Item
  Int : ℤ → Item
  Number : Decimal → Item
  -- the multiplexer indicator of a signal in multiplexing: `M`, `m5`, `m5M`
  Switch : Item
  Muxed : ℕ → Item
  Both : ℕ → Item
  -- `1` for Intel byte order and `0` for Motorola byte order
  Order : Bool → Item
  -- any token but a semicolon, by its bytes
  Piece : List ℕ → Item

-- ---- decimals

-- the greatest number of digits that are written before or after a point
abbrev pub plain_digits : ℕ
plain_digits = 20

abbrev pub zeros : ℕ → List ℕ
zeros count = replicate count digit_zero

-- `digits · 10^exponent`, as `1E-31`
abbrev pub with_exponent : List ℕ → ℤ → List ℕ
with_exponent digits exponent = digits ++ (codes "E" ++ signed_decimal exponent)

-- zeros in front, so that at least one digit is before the point
abbrev pub filled : ℕ → List ℕ → List ℕ
filled after digits = zeros (after + 1 - length digits) ++ digits

abbrev pub point_before_last : ℕ → List ℕ → List ℕ
point_before_last count digits = take (length digits - count) digits ++ (point ∷ drop (length digits - count) digits)

-- `digits · 10^exponent`, without an exponent if at most 20 digits are before the point and at most 20 after it
unfoldable pub magnitude_text : List ℕ → ℤ → List ℕ
magnitude_text digits (pos count) = if nat_le (length digits + count) plain_digits then digits ++ zeros count else with_exponent
    digits (pos count)
magnitude_text digits (negsuc n) =
    if nat_le (suc n) plain_digits && nat_le (length digits) (plain_digits + suc n) then point_before_last (suc n)
    (filled (suc n) digits)
    else with_exponent digits (negsuc n)

unfoldable pub sign_text : Bool → List ℕ
sign_text negative = if negative then codes "-" else []

unfoldable pub decimal_text : Decimal → List ℕ
decimal_text d = sign_text d.negative ++ magnitude_text (decimal d.mantissa) d.exponent

-- ---- the text of a layout

abbrev pub item_text : Item → List ℕ
item_text (Word word) = word
item_text (Mark mark) = mark ∷ []
item_text (Name name) = name
item_text (Symbol word) = word
item_text (Text text) = quoted text
item_text (Whole n) = decimal n
item_text (Int z) = signed_decimal z
item_text (Number d) = decimal_text d
item_text Switch = codes "M"
item_text (Muxed n) = codes "m" ++ decimal n
item_text (Both n) = codes "m" ++ (decimal n ++ codes "M")
item_text (Order intel) = if intel then codes "1" else codes "0"
item_text (Piece bytes) = bytes

pub data Element : Type 0 where
  Space : Element
  Tab : Element
  LineEnd : Element
  Is : Item → Element

abbrev pub element_text : Element → List ℕ
element_text Space = codes " "
element_text Tab = codes "\t"
element_text LineEnd = codes "\n"
element_text (Is item) = item_text item

abbrev pub Layout : Type 0
Layout = List Element

unfoldable pub layout_text : Layout → List ℕ
layout_text layout = flat_map element_text layout

-- the items in order, the first printed in one style and those after it in another; nothing if there is none
abbrev pub separated : {X : Type 0} → (X → Layout) → (X → Layout) → List X → Layout
separated first further [] = []
separated first further (x ∷ xs) = first x ++ flat_map further xs

-- the items of a layout, in order
abbrev pub item_of : Element → List Item
item_of Space = []
item_of Tab = []
item_of LineEnd = []
item_of (Is item) = item ∷ []

unfoldable pub items_of : Layout → List Item
items_of layout = flat_map item_of layout
