-- The byte ranges of the parts of a statement.
-- Source: the DBC file format, the section of each statement; what is a part of its own is the profile of candesk.
use Rattle.std.specs.Prelude.{ℕ, ℤ, pos, neg_ℤ, ◌+◌, ◌-◌, ◌%◌, ◌^◌, Bool, true, false, ◌&&◌, ◌||◌, List, [], ◌∷◌}
use Rattle.std.specs.Prelude.{length, drop, filter, slice_get, codes}
use Rattle.std.specs.Prelude.{Option, Some, None, option_map, if◌then◌else◌}
use Rattle.std.specs.List.{find}
use Rattle.std.specs.Ordering.{int_eq}
use Rattle.std.specs.Str.{bytes_eq}
use Rattle.dbc_values.specs.Numbers.{whole_of_number}
use Rattle.dbc_values.specs.declared.number.Whole.{Whole}
use Rattle.dbc_values.specs.declared.number.Whole.TheVariants as wholes
use Rattle.dbc_values.specs.Lexical.{is_digit, is_point}
use Rattle.dbc_tokens.specs.Tokens.{Token}
use Rattle.dbc_tokens.specs.Places.{tokens_of}
use Rattle.dbc_tokens.specs.inner.Scanner.{cut_of}
use Rattle.dbc_tokens.specs.Views.{left, token_of}
use Rattle.dbc_reader.specs.declared.start.Start.{Start}
use Rattle.dbc_ranges.specs.declared.range.Range.{Range}
use Rattle.dbc_ranges.specs.declared.items.Item.{Item as CodedItem}
use Rattle.dbc_ranges.specs.declared.items.Items.{Items}
use Rattle.dbc_ranges.specs.declared.part.Part.{Part as CodedPart}
use Rattle.dbc_ranges.specs.declared.part.Part.TheVariants as coded

-- ---- items

-- an item: its first token and its last
pub record Item : Type 0 where
  pub first : Token
  pub last : Token

abbrev pub is_sign : List ℕ → Bool
is_sign bytes = bytes_eq bytes (codes "+") || bytes_eq bytes (codes "-")

-- a number begins with a digit or a point, and no other token does
abbrev pub begins_number : List ℕ → Bool
begins_number [] = false
begins_number (b ∷ bytes) = is_digit b || is_point b

-- a sign, and the number that it belongs to
abbrev pub is_signed : Token → Token → Bool
is_signed sign number = is_sign sign.bytes && begins_number number.bytes

abbrev pub one_token : Token → Item
one_token t = record { first = t; last = t }

-- each sign is an item together with its number, and every other token is an item
abbrev pub items_of : List Token → List Item
items_of [] = []
items_of (t ∷ []) = one_token t ∷ []
items_of (t ∷ u ∷ tokens) =
    if is_signed t u then record { first = t; last = u } ∷ items_of tokens else one_token t ∷ items_of (u ∷ tokens)

-- without the tokens' location in memory
abbrev pub item_of : CodedItem → Item
item_of item = record { first = token_of item.first; last = token_of item.last }

abbrev pub items_left : Items → List Item
items_left items = items_of (tokens_of (left items.tokens))

-- the items of a text from the beginning of a statement on
abbrev pub items_at : List ℕ → Start → List Item
items_at text start = items_of (tokens_of (cut_of 1 (drop (length text - start.left) text)))

-- ---- parts

-- a part of a statement, or of a signal
pub data Part : Type 0 where
  Number : Part
  Name : Part
  Sender : Part
  Position : Part
  Length : Part
  Scale : Part
  Receiver : List ℕ → Part
  Multiplexor : Part
  FloatKind : Part
  Value : ℤ → ℕ → Part
  Key : ℕ → Part

-- without a name's location in memory
abbrev pub part_of : CodedPart → Part
part_of coded.Number = Number
part_of coded.Name = Name
part_of coded.Sender = Sender
part_of coded.Position = Position
part_of coded.Length = Length
part_of coded.Scale = Scale
part_of (coded.Receiver name) = Receiver name.now
part_of coded.Multiplexor = Multiplexor
part_of coded.FloatKind = FloatKind
part_of (coded.Value wanted) = Value wanted.number wanted.index
part_of (coded.Key count) = Key count

-- what is after the first colon
abbrev pub after_colon : List Item → List Item
after_colon [] = []
after_colon (item ∷ items) = if bytes_eq item.first.bytes (codes ":") then items else after_colon items

-- what is after this mark, if it comes first
abbrev pub without_mark : List ℕ → List Item → List Item
without_mark mark [] = []
without_mark mark (item ∷ items) = if bytes_eq item.first.bytes mark then items else item ∷ items

-- the first item with these bytes
abbrev pub named : List ℕ → List Item → Option Item
named name items = find (λ item. bytes_eq item.first.bytes name) items

-- the first item has these bytes
abbrev pub begins_with : List ℕ → List Item → Bool
begins_with word [] = false
begins_with word (item ∷ items) = bytes_eq item.first.bytes word

abbrev pub signed_value : Bool → Option Whole → Option ℤ
signed_value negative (Some (wholes.Value n)) = Some (if negative then neg_ℤ (pos n) else pos n)
signed_value negative number = None

-- the value of an item, if it is a whole number
abbrev pub value_of : Item → Option ℤ
value_of item = signed_value (bytes_eq item.first.bytes (codes "-")) (whole_of_number item.last.bytes)

abbrev pub is_value : ℤ → Option ℤ → Bool
is_value number None = false
is_value number (Some value) = int_eq value number

-- the raw values of value descriptions, each of which is followed by its text
abbrev pub described_values : List Item → List Item
described_values [] = []
described_values (item ∷ []) = []
described_values (item ∷ text ∷ items) = item ∷ described_values items

-- of value descriptions, the one at this index among those of this raw value
abbrev pub described_value : ℤ → ℕ → List Item → Option Item
described_value number index items =
    slice_get (filter (λ item. is_value number (value_of item)) (described_values items)) index

-- the first item of a part and its last, which is the same for most
abbrev pub Bounds : Type 0
Bounds = Option Item × Option Item

abbrev pub single : Option Item → Bounds
single item = (item, item)

-- without the tokens' location in memory
abbrev pub pair_of : Option CodedItem × Option CodedItem → Bounds
pair_of pair = (option_map item_of pair.0, option_map item_of pair.1)

abbrev pub between : ℕ → ℕ → List Item → Bounds
between first last items = (slice_get items first, slice_get items last)

-- `BO_ 500 Motor: 8 Gateway`, ` SG_ Speed m1 : 0|16@1+ (0.1,0) [0|6553.5] "rpm" Dash,Brakes`, `SG_MUL_VAL_ 500 Speed Mode 1-1;`,
-- `SIG_VALTYPE_ 500 Speed : 1;`, `VAL_ 500 Gear 0 "N" 1 "D";`
abbrev pub bounds_of : Part → List Item → Bounds
bounds_of Number items = single (slice_get items 1)
bounds_of Name items = single (slice_get items 2)
bounds_of Sender items = single (slice_get items 5)
bounds_of Position items = between 0 4 (after_colon items)
bounds_of Length items = single (slice_get (after_colon items) 2)
bounds_of Scale items = between 7 9 (after_colon items)
bounds_of (Receiver name) items = single (named name (drop 17 (after_colon items)))
bounds_of Multiplexor items = single (slice_get items (if begins_with (codes "SG_") items then 2 else 3))
bounds_of FloatKind items = single (slice_get (without_mark (codes ":") (drop 3 items)) 0)
bounds_of (Value number index) items = single (described_value number index (drop 3 items))
bounds_of (Key count) items = between 0 (count - 1) items

-- ---- ranges

-- In a text of this many bytes, if the first token of the statement is in this line: from the first byte of the first item to the
-- last of the last, and nothing if there is no such part.
abbrev pub range_between : ℕ → ℕ → Bounds → Range
range_between size line (Some first, Some last) = record {
  line = (line + (first.first.line - 1)) % 2 ^ 64;
  from = size - first.first.left;
  to = size - (last.last.left - length last.last.bytes);
}
range_between size line bounds = record { line = line; from = 0; to = 0 }

-- the range of a part of the statement that begins there
abbrev pub range_of : List ℕ → Start → Part → Range
range_of text start part = range_between (length text) start.line (bounds_of part (items_at text start))
