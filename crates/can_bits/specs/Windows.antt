-- How the raw value of a field within the first eight bytes is found at once: those bytes are one word.
use Rattle.std.specs.Prelude.{◌≡◌, ℕ, ◌/◌, ◌^◌, ◌<◌, ◌≤◌, List, length, take, slice_index, bit_and, if◌then◌else◌}
use Rattle.std.specs.Int.{w64, from_le_bytes, from_be_bytes}
use Rattle.dbc_records.specs.declared.byte_order.ByteOrder.{ByteOrder}
use Rattle.dbc_records.specs.Records.{is_intel}
use Rattle.can_bits.specs.declared.field.Field.{Field}
use Rattle.can_bits.specs.declared.window.Window.{Window}
use Rattle.can_bits.specs.Bits.{bits_of, unsigned_raw}

-- eight bytes as one number, the first of them the lowest in Intel byte order and the highest in Motorola byte order
abbrev pub word_of : ByteOrder → List ℕ → ℕ
word_of order first = if is_intel order then from_le_bytes w64 first else from_be_bytes w64 first

abbrev pub bits_in : List ℕ → Window → ℕ
bits_in first window = bit_and (word_of window.order first / 2 ^ window.shift) window.mask

-- whatever the data, if there are eight bytes of it, the field's raw value is what the window reads
pub record IsWindow (field : Field) (window : Window) : Type 0 where
  pub within : window.shift < 64
  pub same : (bytes : List ℕ) → ((i : ℕ) → slice_index bytes i < 256) → 8 ≤ length bytes → bits_in (take 8 bytes) window
      ≡ unsigned_raw bytes (bits_of field)
