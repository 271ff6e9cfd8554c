-- Decode plans: how each signal of a message is read, and for which raw values of its multiplexors (switches) it is present. They
-- read only the message and the entries of its CAN identifier. Source: the DBC file format, "Signal Definitions", "Signal Extended
-- Value Type Definitions", "Signal Value Descriptions", "Extended Multiplexing"; that a signal is read once its multiplexors have
-- their raw values is the decoding of cantools. Which signals are refused is the profile of candesk.
use Rattle.std.specs.Prelude.{ℕ, ℤ, pos, nat_lt, Bool, false, not, ◌&&◌, List, ◌++◌, length, codes, map, Option}
use Rattle.std.specs.Prelude.{Some, None, slice_get, if◌then◌else◌}
use Rattle.std.specs.List.{list_any, list_all, enumerate_from}
use Rattle.std.specs.Option.{option_map, option_and_then}
use Rattle.dbc_values.specs.Scales.{scale_fits, scale_of, most_raw_bits}
use Rattle.dbc_records.specs.Records.{Signal, Message}
use Rattle.dbc_records.specs.Databases.{Database}
use Rattle.dbc_records.specs.declared.mux_row.Range.{Range}
use Rattle.can_bits.specs.Bits.{field_of, is_outside, bits_of, unsigned_raw, raw_value}
use Rattle.can_entries.specs.Rows.{SignalRows, rows_of, first_values, first_float, is_float_row, entries_of}
use Rattle.can_entries.specs.Links.{Link}
use Rattle.dbc_records.specs.Ranges.{in_range}
use Rattle.can_entries.specs.Walks.{walk_of}
use Rattle.can_entries.specs.Switches.{mux_parents_of}
use Rattle.can_entries.specs.declared.mux_parent.MuxParent.{MuxParent}
use Rattle.can_layout.specs.declared.refusal.Cause.{Cause}
use Rattle.can_layout.specs.declared.refusal.Cause.TheVariants as causes
use Rattle.can_layout.specs.declared.row.Reading.{Reading}
use Rattle.can_layout.specs.declared.row.Reading.TheVariants.{Refused, Read}
use Rattle.can_layout.specs.declared.row.Row.{Row}
use Rattle.can_entries.specs.declared.walk.Walk.{Walk}
use Rattle.can_entries.specs.declared.walk.Walk.TheVariants as walks

-- ---- why a signal is refused

-- the first cause that holds: a bit is not in the message, the values are floats, there are more bits than a scale takes,
-- or the values have too many digits
unfoldable pub cause_of : SignalRows → ℕ → Signal → Option Cause
cause_of rows size signal =
    if is_outside size (field_of signal) then Some causes.Outside
    else if is_float_row (first_float signal.name rows) then Some causes.Float
    else if nat_lt most_raw_bits signal.length then Some causes.Long
    else if not (scale_fits signal.factor signal.offset signal.length) then Some causes.Scale
    else None

-- ---- plans

abbrev pub reading_unless : Option Cause → SignalRows → Signal → Reading
reading_unless (Some cause) rows signal = Refused cause
reading_unless None rows signal = Read (record {
  bits = bits_of (field_of signal);
  signed = signal.signed;
  scale = scale_of signal.factor signal.offset signal.length;
  unit = signal.unit;
  entries = entries_of (first_values signal.name rows);
})

abbrev pub reading_of : SignalRows → ℕ → Signal → Reading
reading_of rows size signal = reading_unless (cause_of rows size signal) rows signal

-- the links of a chain; a walk that ends otherwise has none
abbrev pub chain_of : Walk → Option (List Link)
chain_of (walks.Chain links) = Some links
chain_of (walks.Absent own) = None
chain_of walks.Loop = None

-- the row that a plan has for the signal at an index, where `mux_parents` are the multiplexing parents of its message's signals
abbrev pub row_of : SignalRows → List MuxParent → ℕ → ℕ → Signal → Row
row_of rows mux_parents size index signal =
    record {
      name = signal.name;
      field = field_of signal;
      chain = chain_of (walk_of mux_parents index);
      reading = reading_of rows size signal;
    }

-- a row for each signal, in order
abbrev pub plan_rows : SignalRows → List MuxParent → ℕ → List Signal → List Row
plan_rows rows mux_parents size signals = map (λ placed. row_of rows mux_parents size placed.0 placed.1) (enumerate_from 0 signals)

pub record Plan : Type 0 where
  pub size : ℕ
  pub rows : List Row

-- what is between the value of a signal and that of the one before
abbrev pub label_of : Row → List ℕ
label_of row = codes ", " ++ (row.name ++ codes ": ")

unfoldable pub plan_in : SignalRows → Message → Plan
plan_in rows message = record {
  size = message.head.size;
  rows = plan_rows rows (mux_parents_of rows message.signals) message.head.size
      message.signals;
}

abbrev pub plan_of : Database → Message → Plan
plan_of database message = plan_in (rows_of message.head.number database) message

-- the signal at an index of the message at an index, with that message
unfoldable pub signal_at : Database → ℕ → ℕ → Option (Message × Signal)
signal_at database index signal =
    option_and_then (λ message. option_map (λ s. (message, s)) (slice_get message.signals signal))
    (slice_get database.messages index)

-- ---- what a plan finds in data

-- the bits of a signal as a number; a signal that can't be decoded counts as 0
abbrev pub raw_in : List ℕ → Reading → ℕ
raw_in bytes (Refused cause) = 0
raw_in bytes (Read decoder) = unsigned_raw bytes decoder.bits

abbrev pub raw_at : List ℕ → Option Row → ℕ
raw_at bytes None = 0
raw_at bytes (Some row) = raw_in bytes row.reading

abbrev pub raw_value_in : List ℕ → Reading → ℤ
raw_value_in bytes (Refused cause) = pos 0
raw_value_in bytes (Read decoder) = raw_value bytes decoder.signed decoder.bits

abbrev pub raw_value_at : List ℕ → Option Row → ℤ
raw_value_at bytes None = pos 0
raw_value_at bytes (Some row) = raw_value_in bytes row.reading

-- a multiplexor has one of the raw values, as an unsigned number; one that is refused has none
abbrev pub has_number : List ℕ → List Range → Reading → Bool
has_number bytes ranges (Refused cause) = false
has_number bytes ranges (Read decoder) = list_any (in_range (unsigned_raw bytes decoder.bits)) ranges

-- all bits of the signal are in the data
abbrev pub is_whole : List ℕ → Row → Bool
is_whole bytes row = not (is_outside (length bytes) row.field)

-- a multiplexor with a bit that is not in the data has no raw value
abbrev pub switch_has_number : List ℕ → List Range → Option Row → Bool
switch_has_number bytes ranges None = false
switch_has_number bytes ranges (Some row) = is_whole bytes row && has_number bytes ranges row.reading

abbrev pub is_met : List ℕ → List Row → Link → Bool
is_met bytes rows link = switch_has_number bytes link.ranges (slice_get rows link.switch)

abbrev pub are_met : List ℕ → List Row → Option (List Link) → Bool
are_met bytes rows None = false
are_met bytes rows (Some links) = list_all (is_met bytes rows) links

-- a signal is present if it has a chain, and each multiplexor in it has one of the raw values of its link
abbrev pub is_present : List ℕ → List Row → Option Row → Bool
is_present bytes rows None = false
is_present bytes rows (Some row) = are_met bytes rows row.chain
