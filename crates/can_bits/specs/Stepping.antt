-- The positions of a field's bits one after another: each one determines the next. Source: the DBC file format, "Signal
-- Definitions" (start bit, byte order); cantools numbers the bits so: bit 0 of byte 0 is 0, its bit 7 is 7, bit 0 of byte 1 is 8.
use Rattle.std.specs.Prelude.{ℕ, zero, suc, ◌+◌, ◌-◌, ◌%◌, ◌==◌, if◌then◌else◌}
use Rattle.dbc_records.specs.declared.byte_order.ByteOrder.{ByteOrder}
use Rattle.dbc_records.specs.Records.{is_intel}

-- Motorola byte order: down to the next lower bit of the byte, and from bit 0 to bit 7 of the next byte
abbrev pub next_bit : ℕ → ℕ
next_bit position = if position % 8 == 0 then position + 15 else position - 1

-- Intel byte order: the next position; Motorola byte order: the next bit
abbrev pub next_position : ByteOrder → ℕ → ℕ
next_position order position = if is_intel order then position + 1 else next_bit position

-- the position this many steps after the start
abbrev pub position_after : ByteOrder → ℕ → ℕ → ℕ
position_after order start zero = start
position_after order start (suc steps) = next_position order (position_after order start steps)
