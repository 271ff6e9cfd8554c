-- A database as plain data: the lists of its statements, kind by kind.
-- Source: the DBC file format, "Structure of the DBC File". The number of messages is bounded by the profile of candesk.
use Rattle.std.specs.Prelude.{◌≡◌, ℕ, Bool, true, not, ◌&&◌, nat_le, List, All, length, Option, Some, None, IfSome, IsTrue}
use Rattle.std.specs.List.{list_all}
use Rattle.dbc_values.specs.Decimals.{Decimal, IsDecimal}
use Rattle.dbc_values.specs.Names.{IsName, IsText, IsSymbol}
use Rattle.dbc_records.specs.Records.{TableRow, IsTableRow, Message, IsMessage, ValueRow, IsValueRow, FloatRow, IsFloatRow, MuxRow}
use Rattle.dbc_records.specs.Records.{IsMuxRow}
use Rattle.dbc_records.specs.Comments.{Comment, IsComment}
use Rattle.dbc_records.specs.Attributes.{AttrDef, IsAttrDef, AttrDefault, IsAttrDefault, AttrRow, IsAttrRow}
use Rattle.dbc_records.specs.Kept.{Kept, IsKept}

-- the lists are in the order in which they are printed
pub record Database : Type 0 where
  pub version : List ℕ
  pub symbols : List (List ℕ)
  pub bit_timing : Option (List Decimal)
  pub nodes : List (List ℕ)
  pub tables : List TableRow
  pub messages : List Message
  pub comments : List Comment
  pub definitions : List AttrDef
  pub defaults : List AttrDefault
  pub attributes : List AttrRow
  pub values : List ValueRow
  pub floats : List FloatRow
  pub muxes : List MuxRow
  pub kept : List Kept

-- no number is negative
abbrev pub timing_fits : Option (List Decimal) → Bool
timing_fits None = true
timing_fits (Some numbers) = list_all (λ number. not number.negative) numbers

-- the most messages of a database
abbrev pub most_messages : ℕ
most_messages = 65535

-- at most this many messages, and a bit timing without a negative number
abbrev pub database_fits : Option (List Decimal) → List Message → Bool
database_fits timing messages = timing_fits timing && nat_le (length messages) most_messages

-- a bit timing is three numbers: the baud rate and two registers ("Bit Timing Definition")
pub record IsBitTiming (timing : List Decimal) : Type 0 where
  pub three : length timing ≡ 3
  pub numbers : All IsDecimal timing

pub record IsDatabase (database : Database) : Type 0 where
  pub version : IsText database.version
  pub symbols : All IsSymbol database.symbols
  pub bit_timing : IfSome database.bit_timing IsBitTiming
  pub nodes : All IsName database.nodes
  pub tables : All IsTableRow database.tables
  pub messages : All IsMessage database.messages
  pub comments : All IsComment database.comments
  pub definitions : All IsAttrDef database.definitions
  pub defaults : All IsAttrDefault database.defaults
  pub attributes : All IsAttrRow database.attributes
  pub values : All IsValueRow database.values
  pub floats : All IsFloatRow database.floats
  pub muxes : All IsMuxRow database.muxes
  pub kept : All IsKept database.kept
  pub fits : IsTrue (database_fits database.bit_timing database.messages)
