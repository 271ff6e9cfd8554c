-- Bytes as texts of JSON, which are UTF-8. Source: RFC 8259, "Character Encoding"; ISO 8859-1 for the characters of single bytes;
-- RFC 4648, "Base 16 Encoding". That bytes which aren't UTF-8 become characters one by one is the profile of candesk.
use Rattle.std.specs.Prelude.{◌≡◌, ℕ, ◌/◌, ◌%◌, ◌==◌, ◌&&◌, not, nat_le, nat_lt, Bool, List, [], ◌∷◌, slice_index, Option, Some}
use Rattle.std.specs.Prelude.{None, if◌then◌else◌}
use Rattle.std.specs.Result.{result_ok}
use Rattle.std.specs.List.{flat_map, list_all}
use Rattle.std.specs.Str.{is_utf8}
use Rattle.std.specs.Char.{encode_utf8}
use Rattle.hex.specs.Hex.{upper_digits, encode_upper, decode_of, IsBytes}
use Rattle.json.specs.Print.{escape}

-- each byte as the character with its value
abbrev pub characters : List ℕ → List ℕ
characters bytes = flat_map encode_utf8 bytes

-- the bytes themselves if they are UTF-8
unfoldable pub text_of : List ℕ → List ℕ
text_of bytes = if is_utf8 bytes then bytes else characters bytes

-- the bytes as hexadecimal pairs, if they aren't UTF-8
unfoldable pub hex_pairs : List ℕ → Option (List ℕ)
hex_pairs bytes = if is_utf8 bytes then None else Some (encode_upper bytes)

-- the pair of a byte, in a string
abbrev pub pair_text : ℕ → List ℕ
pair_text byte = escape (slice_index upper_digits (byte / 16) ∷ slice_index upper_digits (byte % 16) ∷ [])

-- a byte that is a character by itself, and goes into a string as it is
abbrev pub is_plain_byte : ℕ → Bool
is_plain_byte b = nat_le 32 b && nat_lt b 128 && not (b == 34) && not (b == 92)

abbrev pub is_plain : List ℕ → Bool
is_plain bytes = list_all is_plain_byte bytes

-- the bytes of a text: those of its pairs, if there are any
abbrev pub bytes_of : List ℕ → Option (List ℕ) → Option (List ℕ)
bytes_of text None = Some text
bytes_of text (Some pairs) = result_ok (decode_of pairs)

-- no byte is lost
abbrev pub BytesRecovered : Type 0
BytesRecovered = (bytes : List ℕ) → IsBytes bytes → bytes_of (text_of bytes) (hex_pairs bytes) ≡ Some bytes
