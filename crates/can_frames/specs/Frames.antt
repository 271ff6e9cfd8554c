-- The frame of a log line: its kind, its identifier and its bytes, by what is before and after the first `#` of its word. Source:
-- can-utils, the log format of `candump -L` (lib.h, "CAN log file"), where `_` begins a raw length code.
use Rattle.std.specs.Prelude.{◌≡◌, ◌≤◌, ◌<◌, ℕ, ◌+◌, ◌*◌, ◌/◌, ◌%◌, ◌^◌, Bool, true, false, not, ◌&&◌, ◌||◌, ◌==◌, nat_le, List, []}
use Rattle.std.specs.Prelude.{◌∷◌, length, take, drop, Option, Some, None, option_and_then, option_map, if◌then◌else◌}
use Rattle.std.specs.List.{prefix_len}
use Rattle.std.specs.Result.{result_ok}
use Rattle.std.specs.Int.{from_be_bytes, w16, w32}
use Rattle.hex.specs.Hex.{decode_of, is_hex_digit}
use Rattle.dbc_values.specs.Lexical.{digit_zero, digit_nine, capital_a, small_a, underscore}
use Rattle.can_frames.specs.declared.frame.Kind.{Kind}
use Rattle.can_frames.specs.declared.frame.Kind.TheVariants.{Classic, Fd, Remote, Error}
use Rattle.can_frames.specs.LogLines.{frame_word}
pub use Rattle.can_frames.specs.LogLines.{body_of}

-- ---- frames

pub record Frame : Type 0 where
  pub kind : Kind
  pub extended : Bool
  pub identifier : ℕ
  pub bytes : List ℕ

-- the greatest standard (11-bit) identifier
abbrev pub greatest_standard : ℕ
greatest_standard = 2047

-- the bytes of the longest frame
abbrev pub most_bytes : ℕ
most_bytes = 64

-- the identifier is extended (29-bit), or standard (11-bit) otherwise
abbrev pub IsFrame : Frame → Type 0
IsFrame frame =
    (frame.identifier < 2 ^ 29) × (frame.extended ≡ false → frame.identifier ≤ greatest_standard)
    × (length frame.bytes ≤ most_bytes)

abbrev pub is_data_kind : Kind → Bool
is_data_kind Classic = true
is_data_kind Fd = true
is_data_kind Remote = false
is_data_kind Error = false

-- the frame is a data frame, whose bytes are signals
abbrev pub is_data : Frame → Bool
is_data frame = is_data_kind frame.kind

-- the CAN identifier by which a database knows the frame: bit 31 marks an extended (29-bit) one
abbrev pub number_of : Frame → ℕ
number_of frame = frame.identifier + (if frame.extended then 2 ^ 31 else 0)

-- ---- bytes of a frame's word

-- `#`
abbrev pub number_sign : ℕ
number_sign = 35

abbrev pub digit_eight : ℕ
digit_eight = 56

abbrev pub capital_f : ℕ
capital_f = 70

abbrev pub capital_r : ℕ
capital_r = 82

abbrev pub small_f : ℕ
small_f = 102

-- ---- identifiers

-- an identifier as its digits spell it
pub record Identifier : Type 0 where
  pub extended : Bool
  pub marks_error : Bool
  pub number : ℕ

-- a standard (11-bit) identifier
abbrev pub standard_identifier : ℕ → Option Identifier
standard_identifier n = if nat_le n greatest_standard then Some (record { extended = false; marks_error = false; number = n }) else
    None

-- an extended (29-bit) identifier; the bit above it marks an error frame, and the two highest bits are ignored
abbrev pub extended_identifier : ℕ → Identifier
extended_identifier n = record { extended = true; marks_error = n / 2 ^ 29 % 2 == 1; number = n % 2 ^ 29 }

-- three hexadecimal digits: after a 0 they are two bytes, the higher first
unfoldable pub of_three_digits : List ℕ → Option Identifier
of_three_digits digits = option_and_then (λ bytes. standard_identifier (from_be_bytes w16 bytes))
    (result_ok (decode_of (digit_zero ∷ digits)))

-- eight hexadecimal digits: four bytes, the highest first
unfoldable pub of_eight_digits : List ℕ → Option Identifier
of_eight_digits digits = option_map (λ bytes. extended_identifier (from_be_bytes w32 bytes)) (result_ok (decode_of digits))

-- the number of digits distinguishes standard (11-bit) from extended (29-bit)
unfoldable pub identifier_of : List ℕ → Option Identifier
identifier_of digits =
    if length digits == 3 then of_three_digits digits
    else (if length digits == 8 then of_eight_digits digits else None)

-- ---- forms

-- the contents of a frame's form: its kind, and the digits of its bytes
pub record Form : Type 0 where
  pub kind : Kind
  pub digits : List ℕ

-- a raw length code of a frame of eight bytes: `9` to `F`, in either case
abbrev pub is_raw_length : ℕ → Bool
is_raw_length b = b == digit_nine || (nat_le capital_a b && nat_le b capital_f) || (nat_le small_a b && nat_le b small_f)

-- `_` and a raw length code
abbrev pub is_raw_length_code : List ℕ → Bool
is_raw_length_code (mark ∷ code ∷ []) = mark == underscore && is_raw_length code
is_raw_length_code text = false

-- the digits of at most this many bytes
abbrev pub form_up_to : ℕ → Kind → List ℕ → Option Form
form_up_to most kind digits = if nat_le (length digits) (2 * most) then Some (record { kind = kind; digits = digits }) else None

-- up to 8 pairs; a raw length code may follow exactly 8
unfoldable pub classic_form : List ℕ → Option Form
classic_form text = form_up_to 8 Classic (if is_raw_length_code (drop 16 text) then take 16 text else text)

-- a digit of flags, which is ignored, and up to 64 pairs
unfoldable pub fd_form : List ℕ → Option Form
fd_form [] = None
fd_form (flags ∷ digits) = if is_hex_digit flags then form_up_to 64 Fd digits else None

-- nothing, or the length that is asked for: `0` to `8`, and after an `8` perhaps a raw length code
abbrev pub is_asked_length : List ℕ → Bool
is_asked_length [] = true
is_asked_length (digit ∷ []) = nat_le digit_zero digit && nat_le digit digit_eight
is_asked_length (digit ∷ code) = digit == digit_eight && is_raw_length_code code

unfoldable pub remote_form : List ℕ → Option Form
remote_form text = if is_asked_length text then Some (record { kind = Remote; digits = [] }) else None

-- what is after the first `#`: a further `#` begins an FD frame, and `R` a remote one
unfoldable pub form_of : List ℕ → Option Form
form_of [] = classic_form []
form_of (b ∷ text) = if b == number_sign then fd_form text else (if b == capital_r then remote_form text else classic_form
    (b ∷ text))

-- ---- the frame of a line

-- an identifier can mark any form as an error frame
abbrev pub kind_of : Identifier → Form → Kind
kind_of identifier form = if identifier.marks_error then Error else form.kind

-- a frame of these bytes
abbrev pub frame_with : Identifier → Form → List ℕ → Frame
frame_with identifier form data_bytes = record {
  kind = kind_of identifier form;
  extended = identifier.extended;
  identifier = identifier.number;
  bytes = data_bytes;
}

-- the digits of the form spell the frame's bytes
abbrev pub frame_of_parts : Identifier → Form → Option Frame
frame_of_parts identifier form = option_map (frame_with identifier form) (result_ok (decode_of form.digits))

-- what is before the first `#`
abbrev pub before_number_sign : List ℕ → List ℕ
before_number_sign word = take (prefix_len (λ b. not (b == number_sign)) word) word

-- all but the first byte
abbrev pub following_first : List ℕ → Option (List ℕ)
following_first [] = None
following_first (b ∷ rest) = Some rest

-- what is after the first `#`, if there is one
abbrev pub after_number_sign : List ℕ → Option (List ℕ)
after_number_sign word = following_first (drop (prefix_len (λ b. not (b == number_sign)) word) word)

unfoldable pub frame_of_word : List ℕ → Option Frame
frame_of_word word =
    option_and_then (λ identifier. option_and_then (frame_of_parts identifier) (option_and_then form_of (after_number_sign word)))
    (identifier_of (before_number_sign word))

-- the frame of a line without its CR, if it is a log line
unfoldable pub frame_of : List ℕ → Option Frame
frame_of body = option_and_then frame_of_word (frame_word body)
