-- Reading of messages with their signals.
-- Source: the DBC file format, "Message Definitions" and "Signal Definitions". The counts, and that the names of a
-- message's signals differ, are the profile of candesk.
use Rattle.std.specs.Prelude.{ℕ, ◌^◌, ◌-◌, nat_lt, Bool, true, false, List, [], ◌∷◌, ◌++◌, length, codes, Result, Ok, Err}
use Rattle.std.specs.Prelude.{if◌then◌else◌}
use Rattle.std.specs.List.{list_any}
use Rattle.std.specs.Str.{bytes_eq}
use Rattle.dbc_records.specs.Databases.{most_messages}
use Rattle.dbc_values.specs.Lexical.{is_name, opening_parenthesis, closing_parenthesis, plus, comma, minus, colon, at_sign}
use Rattle.dbc_values.specs.Lexical.{opening_bracket, closing_bracket, bar}
use Rattle.dbc_records.specs.Records.{Head, Signal, Message, names_of, most_bytes, most_bits, most_signals, is_intel, is_signed}
use Rattle.dbc_records.specs.declared.byte_order.ByteOrder.{ByteOrder}
use Rattle.dbc_records.specs.declared.tag.Tag.{Tag}
use Rattle.dbc_records.specs.declared.tag.Tag.TheVariants as tags
use Rattle.dbc_records.specs.declared.value_type.ValueType.{ValueType}
use Rattle.dbc_records.specs.declared.value_type.ValueType.TheVariants as types
use Rattle.dbc_tokens.specs.declared.fault.Cause.{Cause}
use Rattle.dbc_tokens.specs.declared.fault.Cause.TheVariants as causes
use Rattle.dbc_reader.specs.declared.messages.BitField.{BitField}
use Rattle.dbc_reader.specs.Classes.{has_word, has_mark}
use Rattle.dbc_reader.specs.inner.Readers.{Reader, ◌>>=◌, value, one, choose, repeated}
use Rattle.dbc_reader.specs.inner.Parts.{mark_at, name_at, text_at, whole_at, id_at, order_at, tag_token_at, pair_at}
use Rattle.dbc_reader.specs.inner.Parts.{receivers_at}

-- ---- heads

-- where a signal's bits are and how they are read, for proofs in other crates
abbrev pub SignalBits : Type 0
SignalBits = BitField

abbrev pub begun : Bool → Bool → Cause → Result (Unit {0}) Cause
begun word fits full = if word then (if fits then Ok tt else Err full) else Err causes.Statement

-- the keyword of a message, in a text that has had this many
unfoldable pub begin_message_at : ℕ → Reader (Unit {0})
begin_message_at count = one (λ t. begun (has_word (codes "BO_") t) (nat_lt count most_messages) causes.MessagesFull)

-- `BO_ number name : size sender`
unfoldable pub head_at : ℕ → Reader Head
head_at count = do
  _ ← begin_message_at count
  number ← id_at
  name ← name_at
  _ ← mark_at colon
  size ← whole_at 0 most_bytes
  sender ← name_at
  value (record { number = number; name = name; size = size; sender = sender })

-- ---- signals

-- the keyword of a signal, in a message that has so many
unfoldable pub begin_signal_at : ℕ → Reader (Unit {0})
begin_signal_at count = one (λ t. begun (has_word (codes "SG_") t) (nat_lt count most_signals) causes.SignalsFull)

abbrev pub fresh : List (List ℕ) → List ℕ → Result (List ℕ) Cause
fresh names name = if is_name name then (if list_any (bytes_eq name) names then Err causes.RepeatedSignal else Ok name) else Err
    causes.Statement

-- the name of a signal, in a message whose signals have these
unfoldable pub signal_name_at : List (List ℕ) → Reader (List ℕ)
signal_name_at names = one (λ t. fresh names t.bytes)

-- what is before the colon
unfoldable pub tag_at : Reader Tag
tag_at = choose (has_mark colon) (value tags.Plain) tag_token_at

-- `+` for unsigned and `-` for signed
unfoldable pub sign_at : Reader ValueType
sign_at = choose (has_mark minus) (do
  _ ← mark_at minus
  value types.Signed) (do
    _ ← mark_at plus
    value types.Unsigned)

-- `start|length@order` and the sign
unfoldable pub bit_field_at : Reader BitField
bit_field_at = do
  start ← whole_at 0 (2 ^ 16 - 1)
  _ ← mark_at bar
  length ← whole_at 1 most_bits
  _ ← mark_at at_sign
  order ← order_at
  value_type ← sign_at
  value (record { start = start; length = length; order = order; value_type = value_type })

-- `SG_ name tag : start|length@order` sign `(factor,offset) [minimum|maximum] "unit" receivers`, in a message
-- that has these signals
unfoldable pub signal_at : List Signal → Reader Signal
signal_at signals = do
  _ ← begin_signal_at (length signals)
  name ← signal_name_at (names_of signals)
  tag ← tag_at
  _ ← mark_at colon
  bit_field ← bit_field_at
  scale ← pair_at opening_parenthesis comma closing_parenthesis
  limits ← pair_at opening_bracket bar closing_bracket
  unit ← text_at
  receivers ← receivers_at
  value (record {
    name = name;
    tag = tag;
    start = bit_field.start;
    length = bit_field.length;
    intel = is_intel bit_field.order;
    signed = is_signed bit_field.value_type;
    factor = scale.0;
    offset = scale.1;
    minimum = limits.0;
    maximum = limits.1;
    unit = unit;
    receivers = receivers;
  })

-- signals, as many as there are, after these
unfoldable pub signals_from : List Signal → Reader (List Signal)
signals_from = repeated (has_word (codes "SG_")) (λ signals. do
  signal ← signal_at signals
  value (signals ++ signal ∷ []))

-- a message, in a text that has had this many
unfoldable pub message_at : ℕ → Reader Message
message_at count = do
  head ← head_at count
  signals ← signals_from []
  value (record { head = head; signals = signals })
