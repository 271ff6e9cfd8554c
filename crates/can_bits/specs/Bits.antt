-- Where the bits of a signal are in the data of its message, and the number that they represent there. Source: the DBC file format,
-- "Signal Definitions" (start bit, signal size, byte order, value type); the numbering of bits through a message is that of
-- cantools: bit 0 of byte 0 is 0, its bit 7 is 7, bit 0 of byte 1 is 8.
use Rattle.std.specs.Prelude.{ℕ, ℤ, pos, ◌+◌, ◌-◌, ◌-ℤ◌, ◌*◌, ◌/◌, ◌%◌, ◌^◌, ◌==◌, ◌&&◌, nat_le, Bool, List, length, map}
use Rattle.std.specs.Prelude.{slice_index, if◌then◌else◌}
use Rattle.std.specs.List.{range_with_len, sum_by, list_any}
use Rattle.dbc_records.specs.Records.{Signal, is_intel, byte_order}
use Rattle.can_bits.specs.declared.field.Field.{Field}

abbrev pub field_of : Signal → Field
field_of signal = record { start = signal.start; length = signal.length; order = byte_order signal.intel }

-- ---- positions

-- the bit of data at a position, which is bit `position mod 8` of byte `position div 8`, bit 0 being the least significant; beyond
-- the data it is 0
abbrev pub bit_of : List ℕ → ℕ → ℕ
bit_of bytes position = slice_index bytes (position / 8) / 2 ^ (position % 8) % 2

-- the position at which a bit would be, if the bits of each byte were counted from its most significant one
abbrev pub mirrored : ℕ → ℕ
mirrored position = position + 7 - 2 * (position % 8)

-- The position of a field's bit, by its index in the field. In Intel byte order index 0 is the least significant bit, at the start,
-- and the next bit up is the next position. In Motorola byte order index 0 is the most significant bit, at the start; the next bit
-- down is the next lower one of its byte, and after bit 0 bit 7 of the next byte.
abbrev pub position_of : Field → ℕ → ℕ
position_of field index = if is_intel field.order then field.start + index else mirrored (mirrored field.start + index)

abbrev pub weight_of : Field → ℕ → ℕ
weight_of field index = if is_intel field.order then 2 ^ index else 2 ^ (field.length - 1 - index)

-- a bit of a signal: its position, and its weight
pub record Bit : Type 0 where
  pub position : ℕ
  pub weight : ℕ

abbrev pub bit_at : Field → ℕ → Bit
bit_at field index = record { position = position_of field index; weight = weight_of field index }

-- the bits at `count` indexes from one on
abbrev pub bits_from : Field → ℕ → ℕ → List Bit
bits_from field index count = map (bit_at field) (range_with_len index count)

unfoldable pub bits_of : Field → List Bit
bits_of field = bits_from field 0 field.length

-- whether a bit of the field is at the position
abbrev pub has_position : Field → ℕ → Bool
has_position field position = list_any (λ index. position_of field index == position) (range_with_len 0 field.length)

-- whether a bit of the field is not in that many bytes
unfoldable pub is_outside : ℕ → Field → Bool
is_outside size field = list_any (λ index. nat_le (8 * size) (position_of field index)) (range_with_len 0 field.length)

-- ---- raw values

-- what a bit adds in data
abbrev pub counted : List ℕ → Bit → ℕ
counted bytes bit = bit.weight * bit_of bytes bit.position

-- the sum of weight times bit
abbrev pub unsigned_raw : List ℕ → List Bit → ℕ
unsigned_raw bytes bits = sum_by (counted bytes) bits

-- whether the most significant bit is 1
abbrev pub is_negative : List ℕ → List Bit → Bool
is_negative bytes bits = list_any (λ bit. bit.weight == 2 ^ (length bits - 1) && bit_of bytes bit.position == 1) bits

-- two's complement in as many bits as there are, if the signal is signed
unfoldable pub raw_value : List ℕ → Bool → List Bit → ℤ
raw_value bytes signed bits =
    if signed && is_negative bytes bits then pos (unsigned_raw bytes bits) -ℤ pos (2 ^ length bits) else pos
    (unsigned_raw bytes bits)
