-- The rules that a signal may break: each a test.
-- Source: the DBC file format, "Signal Definitions", "Extended Multiplexing", "Signal Extended Value Type Definitions".
use Rattle.std.specs.Prelude.{ℕ, ◌&&◌, ◌||◌, nat_lt, nat_le, Bool, true, false, not, List, Option, Some, None}
use Rattle.std.specs.List.{list_any}
use Rattle.std.specs.Str.{bytes_eq}
use Rattle.dbc_values.specs.Scales.{scale_fits, most_raw_bits}
use Rattle.dbc_records.specs.Records.{Signal, MuxRow}
use Rattle.dbc_records.specs.declared.tag.Tag.{Tag}
use Rattle.dbc_records.specs.declared.tag.Tag.TheVariants as tags
use Rattle.dbc_records.specs.Ranges.{is_empty_range}
use Rattle.can_bits.specs.Bits.{field_of, is_outside}
use Rattle.can_entries.specs.Rows.{SignalRows, first_float}
use Rattle.can_entries.specs.Rows.{is_float_row}
use Rattle.can_entries.specs.declared.walk.Walk.{Walk}
use Rattle.can_entries.specs.declared.walk.Walk.TheVariants as walks

-- ---- multiplexing

-- the signal's own multiplexor is not in the message
abbrev pub has_no_switch : Walk → Bool
has_no_switch (walks.Chain links) = false
has_no_switch (walks.Absent own) = own
has_no_switch walks.Loop = false

-- the multiplexing chain from the signal comes to one for the second time
abbrev pub is_loop : Walk → Bool
is_loop (walks.Chain links) = false
is_loop (walks.Absent own) = false
is_loop walks.Loop = true

-- a multiplexer indicator with an `M`
abbrev pub can_switch : Tag → Bool
can_switch tags.Plain = false
can_switch tags.Switch = true
can_switch (tags.Muxed n) = false
can_switch (tags.Both n) = true

-- the signal of the name, which has no `M`
abbrev pub is_no_switch : List ℕ → Signal → Bool
is_no_switch name signal = bytes_eq signal.name name && not (can_switch signal.tag)

-- an entry with a range that holds no number, or with a multiplexor that is in the message and has no `M`
abbrev pub is_bad_row : List Signal → Option MuxRow → Bool
is_bad_row signals None = false
is_bad_row signals (Some row) = list_any is_empty_range row.ranges || list_any (is_no_switch row.switch) signals

-- ---- what keeps a signal from being decoded

-- a bit of it is not in this many bytes
abbrev pub signal_outside : ℕ → Signal → Bool
signal_outside size signal = is_outside size (field_of signal)

abbrev pub is_float : SignalRows → Signal → Bool
is_float rows signal = is_float_row (first_float signal.name rows)

abbrev pub is_long : Signal → Bool
is_long signal = nat_lt most_raw_bits signal.length

-- its values have too many digits
abbrev pub has_no_scale : Signal → Bool
has_no_scale signal = nat_le signal.length most_raw_bits && not (scale_fits signal.factor signal.offset signal.length)
