-- Which bytes are UTF-8: pairs of hexadecimal digits, and texts of any bytes.
use Rattle.std.proofs.Common.{◌≡◌, ℕ, zero, suc, ◌<◌, ◌≤◌, ◌/◌, ◌%◌, ◌==◌, ◌&&◌}
use Rattle.std.proofs.Common.{◌||◌, Bool, true, false, not, List, [], ◌∷◌, ◌++◌, length}
use Rattle.std.proofs.Common.{take, drop, if◌then◌else◌, refl, sym, subst, arith, inl, inr}
use Rattle.std.specs.Prelude.{nat_lt, slice_index}
use Rattle.std.specs.List.{AllByRecursion, flat_map, list_all, prefix_len}
use Rattle.std.specs.Char.{encode_utf8}
use Rattle.std.specs.Str.{IsUtf8, is_utf8}
use Rattle.std.proofs.lemmas.Bool.{and_parts, cases_Bool, lt-ltb, ltb-true}
use Rattle.std.proofs.lemmas.Str.{IsUtf8-append, IsUtf8-nil, IsUtf8-encode, IsUtf8-from_is_utf8}
use Rattle.std.proofs.Math.Utf8.{scalar}
use Rattle.hex.specs.Hex.{IsBytes, upper_digits, encode_with, encode_upper}
use Rattle.json.proofs.Printed.Utf8.{are_ascii, IsUtf8-are_ascii}
use Rattle.can_json_texts.specs.Texts.{characters, text_of}
use Rattle.dbc_values.specs.Lexical.{carriage_return}
use Rattle.can_json_laws.proofs.OneLine.{holds_below, held}
use Rattle.can_frames.specs.LogLines.{is_log_blank, first_word, after_first_word, body_of}

-- ---- bytes

abbrev pub AreBytes : List ℕ → Type 0
AreBytes bytes = AllByRecursion (λ (b : ℕ). b < 256) bytes

pub are_bytes : (bytes : List ℕ) → IsBytes bytes → AreBytes bytes
are_bytes [] is = tt
are_bytes (b ∷ bytes) is = (is 0, are_bytes bytes (λ i. is (suc i)))

take_bytes : (n : ℕ) (bytes : List ℕ) → AreBytes bytes → AreBytes (take n bytes)
take_bytes zero bytes are = tt
take_bytes (suc n) [] are = tt
take_bytes (suc n) (b ∷ bytes) are = (are.0, take_bytes n bytes are.1)

drop_bytes : (n : ℕ) (bytes : List ℕ) → AreBytes bytes → AreBytes (drop n bytes)
drop_bytes zero bytes are = are
drop_bytes (suc n) [] are = tt
drop_bytes (suc n) (b ∷ bytes) are = drop_bytes n bytes are.1

body_by : (test : Bool) (n : ℕ) (line : List ℕ) → AreBytes line → AreBytes (if test then take n line else line)
body_by true n line are = take_bytes n line are
body_by false n line are = are

pub body_bytes : (line : List ℕ) → AreBytes line → AreBytes (body_of line)
body_bytes line are = body_by _ _ line are

pub word_bytes : (bytes : List ℕ) → AreBytes bytes → AreBytes (first_word bytes)
word_bytes bytes are = take_bytes (prefix_len (λ b. not (is_log_blank b)) bytes) bytes are

pub after_bytes : (bytes : List ℕ) → AreBytes bytes → AreBytes (after_first_word bytes)
after_bytes bytes are =
    let rest : List ℕ = drop (prefix_len (λ b. not (is_log_blank b)) bytes) bytes in
    drop_bytes (prefix_len is_log_blank rest) rest (drop_bytes (prefix_len (λ b. not (is_log_blank b)) bytes) bytes are)

-- ---- texts

low_scalars : holds_below scalar 256 ≡ true
low_scalars = refl

characters_utf8 : (bytes : List ℕ) → AreBytes bytes → IsUtf8 (characters bytes)
characters_utf8 [] are = IsUtf8-nil
characters_utf8 (b ∷ bytes) are =
    IsUtf8-append (encode_utf8 b) (characters bytes) (IsUtf8-encode b (held scalar 256 low_scalars b are.0))
    (characters_utf8 bytes are.1)

text_by : (bytes : List ℕ) (test : Bool) → is_utf8 bytes ≡ test → AreBytes bytes → IsUtf8 (if test then bytes else characters bytes)
text_by bytes true is are = IsUtf8-from_is_utf8 bytes is
text_by bytes false is are = characters_utf8 bytes are

pub text_is_utf8 : (bytes : List ℕ) → AreBytes bytes → IsUtf8 (text_of bytes)
unfolding text_of
text_is_utf8 bytes are = text_by bytes (is_utf8 bytes) refl are

pub text_utf8 : (bytes : List ℕ) → IsBytes bytes → IsUtf8 (text_of bytes)
text_utf8 bytes is = text_is_utf8 bytes (are_bytes bytes is)

-- ---- pairs

small_at : (digits : List ℕ) (n : ℕ) → AllByRecursion (λ (b : ℕ). b < 128) digits → slice_index digits n < 128
small_at [] n small = omega arith
small_at (b ∷ digits) zero small = small.0
small_at (b ∷ digits) (suc n) small = small_at digits n small.1

small_by : (text : List ℕ) → are_ascii text ≡ true → AllByRecursion (λ (b : ℕ). b < 128) text
small_by [] are = tt
small_by (b ∷ text) are =
    let parts = and_parts (nat_lt b 128) (are_ascii text) are in (ltb-true b 128 parts.0, small_by text parts.1)

digit_small : (n : ℕ) → slice_index upper_digits n < 128
digit_small n = small_at upper_digits n (small_by upper_digits refl)

pairs_ascii : (bytes : List ℕ) → are_ascii (encode_upper bytes) ≡ true
unfolding encode_with
pairs_ascii [] = refl
pairs_ascii (b ∷ bytes) =
    rw (
      lt-ltb (slice_index upper_digits (b / 16)) 128 (digit_small (b / 16)),
      lt-ltb (slice_index upper_digits (b % 16)) 128
          (digit_small (b % 16)),
    ) (pairs_ascii bytes)

pub hex_utf8 : (bytes : List ℕ) → IsUtf8 (encode_upper bytes)
hex_utf8 bytes = IsUtf8-are_ascii (encode_upper bytes) (pairs_ascii bytes)
