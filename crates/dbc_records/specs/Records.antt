-- The records of a database as plain data: numbers, lists and records of them, with no proof inside, so that definitions may make
-- such values freely. With each comes what every value of it is, and before that, as a test that computes, what its constructor
-- judges. Enums, and records that are bounded by their fields' types alone, are plain data as the code declares them. Source: the
-- DBC file format, the section that is named with each. Bounds that no section gives are the profile of candesk.
use Rattle.std.specs.Prelude.{ℕ, ℤ, pos, negsuc, int_le, ◌-◌, ◌<◌, ◌^◌, Bool, true, false, not, ◌&&◌, nat_le, List, [], ◌∷◌, All}
use Rattle.std.specs.Prelude.{length, map, IsTrue}
use Rattle.std.specs.List.{list_any}
use Rattle.std.specs.Str.{bytes_eq}
use Rattle.dbc_values.specs.Names.{IsName, IsText}
use Rattle.dbc_values.specs.Decimals.{Decimal, IsDecimal}
use Rattle.dbc_records.specs.declared.byte_order.ByteOrder.{ByteOrder}
use Rattle.dbc_records.specs.declared.byte_order.ByteOrder.TheVariants as orders
use Rattle.dbc_records.specs.declared.tag.Tag.{Tag}
use Rattle.dbc_records.specs.declared.tag.Tag.TheVariants as tags
use Rattle.dbc_records.specs.declared.mux_row.Range.{Range}
use Rattle.dbc_records.specs.declared.value_type.ValueType.{ValueType}
use Rattle.dbc_records.specs.declared.value_type.ValueType.TheVariants as types

-- the CAN identifier of a message, by which entries name it
abbrev pub IsNumber : ℕ → Type 0
IsNumber number = number < 2 ^ 32

-- ---- messages ("Message Definitions")

-- the first line of a message
pub record Head : Type 0 where
  pub number : ℕ
  pub name : List ℕ
  pub size : ℕ
  pub sender : List ℕ

-- the greatest length of a message: that of a J1939 transport message
abbrev pub most_bytes : ℕ
most_bytes = 1785

abbrev pub head_fits : ℕ → Bool
head_fits size = nat_le size most_bytes

pub record IsHead (head : Head) : Type 0 where
  pub number : IsNumber head.number
  pub name : IsName head.name
  pub size : IsTrue (head_fits head.size)
  pub sender : IsName head.sender

abbrev pub IsTag : Tag → Type 0
IsTag tags.Plain = Unit {0}
IsTag tags.Switch = Unit {0}
IsTag (tags.Muxed n) = n < 2 ^ 64
IsTag (tags.Both n) = n < 2 ^ 64

-- the byte order of a signal ("Signal Definitions", byte_order)
abbrev pub is_intel : ByteOrder → Bool
is_intel orders.Motorola = false
is_intel orders.Intel = true

abbrev pub byte_order : Bool → ByteOrder
byte_order false = orders.Motorola
byte_order true = orders.Intel

-- the value type of a signal ("Signal Definitions", value_type)
abbrev pub is_signed : ValueType → Bool
is_signed types.Unsigned = false
is_signed types.Signed = true

abbrev pub value_type : Bool → ValueType
value_type false = types.Unsigned
value_type true = types.Signed

-- a signal ("Signal Definitions")
pub record Signal : Type 0 where
  pub name : List ℕ
  pub tag : Tag
  pub start : ℕ
  pub length : ℕ
  pub intel : Bool
  pub signed : Bool
  pub factor : Decimal
  pub offset : Decimal
  pub minimum : Decimal
  pub maximum : Decimal
  pub unit : List ℕ
  pub receivers : List (List ℕ)

-- the most bits of a signal: those of the longest message
abbrev pub most_bits : ℕ
most_bits = 14280

-- at least one bit
abbrev pub signal_fits : ℕ → Bool
signal_fits bits = nat_le 1 bits && nat_le bits most_bits

pub record IsSignal (signal : Signal) : Type 0 where
  pub name : IsName signal.name
  pub tag : IsTag signal.tag
  pub start : signal.start < 2 ^ 16
  pub fits : IsTrue (signal_fits signal.length)
  pub factor : IsDecimal signal.factor
  pub offset : IsDecimal signal.offset
  pub minimum : IsDecimal signal.minimum
  pub maximum : IsDecimal signal.maximum
  pub unit : IsText signal.unit
  pub receivers : All IsName signal.receivers

pub record Message : Type 0 where
  pub head : Head
  pub signals : List Signal

abbrev pub names_of : List Signal → List (List ℕ)
names_of signals = map (λ signal. signal.name) signals

-- no name is equal to a later one
abbrev pub are_distinct : List (List ℕ) → Bool
are_distinct [] = true
are_distinct (name ∷ names) = not (list_any (bytes_eq name) names) && are_distinct names

-- the most signals of a message
abbrev pub most_signals : ℕ
most_signals = 999

-- the signals have different names
unfoldable pub signals_fit : List Signal → Bool
signals_fit signals = nat_le (length signals) most_signals && are_distinct (names_of signals)

pub record IsMessage (message : Message) : Type 0 where
  pub head : IsHead message.head
  pub signals : All IsSignal message.signals
  pub fit : IsTrue (signals_fit message.signals)

-- ---- value descriptions ("Value Table Definitions", "Signal Value Descriptions")

pub record Entry : Type 0 where
  pub number : ℤ
  pub text : List ℕ

-- from -2^63 to 2^64 - 1: what a signal of 64 bits may be, signed or not
abbrev pub entry_fits : ℤ → Bool
entry_fits number = int_le (negsuc (2 ^ 63 - 1)) number && int_le number (pos (2 ^ 64 - 1))

pub record IsEntry (entry : Entry) : Type 0 where
  pub fits : IsTrue (entry_fits entry.number)
  pub text : IsText entry.text

-- a table of its own name
pub record TableRow : Type 0 where
  pub name : List ℕ
  pub entries : List Entry

pub record IsTableRow (row : TableRow) : Type 0 where
  pub name : IsName row.name
  pub entries : All IsEntry row.entries

-- the value descriptions of a signal
pub record ValueRow : Type 0 where
  pub number : ℕ
  pub signal : List ℕ
  pub entries : List Entry

pub record IsValueRow (row : ValueRow) : Type 0 where
  pub number : IsNumber row.number
  pub signal : IsName row.signal
  pub entries : All IsEntry row.entries

-- ---- further entries of a signal

-- the float type of a signal ("Signal Definitions")
pub record FloatRow : Type 0 where
  pub number : ℕ
  pub signal : List ℕ
  pub kind : ℕ

-- 0 is a whole number, 1 a float of 32 bits and 2 one of 64
abbrev pub float_fits : ℕ → Bool
float_fits kind = nat_le kind 2

pub record IsFloatRow (row : FloatRow) : Type 0 where
  pub number : IsNumber row.number
  pub signal : IsName row.signal
  pub fits : IsTrue (float_fits row.kind)

-- the numbers from first to last, and none if first is the greater
pub record IsRange (range : Range) : Type 0 where
  pub first : range.first < 2 ^ 64
  pub last : range.last < 2 ^ 64

-- a signal that is present if the raw value of its multiplexor (switch) is in one of the ranges ("Extended Multiplexing")
pub record MuxRow : Type 0 where
  pub number : ℕ
  pub signal : List ℕ
  pub switch : List ℕ
  pub ranges : List Range

-- at least one range
abbrev pub ranges_fit : List Range → Bool
ranges_fit ranges = nat_le 1 (length ranges)

pub record IsMuxRow (row : MuxRow) : Type 0 where
  pub number : IsNumber row.number
  pub signal : IsName row.signal
  pub switch : IsName row.switch
  pub ranges : All IsRange row.ranges
  pub fit : IsTrue (ranges_fit row.ranges)
