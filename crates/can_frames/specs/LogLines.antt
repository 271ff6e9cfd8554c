-- The words of a log line: `(seconds.fraction) interface frame`, and after a blank anything.
-- Source: can-utils, the log format of `candump -L` (lib.h, "CAN log file").
use Rattle.std.specs.Prelude.{ℕ, ◌-◌, Bool, false, not, ◌&&◌, ◌||◌, ◌==◌, nat_lt, nat_le, slice_index, List, [], ◌∷◌, length, take}
use Rattle.std.specs.Prelude.{drop, Option, Some, None, if◌then◌else◌}
use Rattle.std.specs.List.{prefix_len}
use Rattle.std.specs.Str.{bytes_eq}
use Rattle.dbc_values.specs.Lexical.{space, tab, carriage_return, opening_parenthesis, closing_parenthesis, is_digit, is_point}

-- ---- words

-- space or tab; a CR inside a line is a byte of a word
abbrev pub is_log_blank : ℕ → Bool
is_log_blank b = b == space || b == tab

-- the bytes before the first blank
abbrev pub first_word : List ℕ → List ℕ
first_word bytes = take (prefix_len (λ b. not (is_log_blank b)) bytes) bytes

-- what is after the first word and the blanks that follow it
abbrev pub after_first_word : List ℕ → List ℕ
after_first_word bytes = let rest = drop (prefix_len (λ b. not (is_log_blank b)) bytes) bytes in
    drop (prefix_len is_log_blank rest) rest

-- ---- the stamp

-- this many digits of a fraction, and after them the closing parenthesis alone
abbrev pub closes_stamp : ℕ → List ℕ → Bool
closes_stamp digits rest = nat_le 1 digits && nat_le digits 9 && bytes_eq rest (closing_parenthesis ∷ [])

-- a point, one to nine digits, and the closing parenthesis
abbrev pub is_fraction_end : List ℕ → Bool
is_fraction_end [] = false
is_fraction_end (b ∷ rest) = is_point b && closes_stamp (prefix_len is_digit rest) (drop (prefix_len is_digit rest) rest)

-- at least one digit, and then the fraction
abbrev pub is_seconds_end : List ℕ → Bool
is_seconds_end rest = nat_lt 0 (prefix_len is_digit rest) && is_fraction_end (drop (prefix_len is_digit rest) rest)

-- `(`, seconds with a fraction, `)`
unfoldable pub is_stamp : List ℕ → Bool
is_stamp [] = false
is_stamp (b ∷ rest) = b == opening_parenthesis && is_seconds_end rest

-- ---- lines

-- a line without one final CR
abbrev pub body_of : List ℕ → List ℕ
body_of line = if slice_index line (length line - 1) == carriage_return then take (length line - 1) line else line

-- The third word, if the first is a stamp at the line's very beginning and there is a second one, the interface. It is empty if
-- there are only two words.
unfoldable pub frame_word : List ℕ → Option (List ℕ)
frame_word body =
    let after_stamp = after_first_word body in
    if is_stamp (first_word body) && not (length (first_word after_stamp) == 0)
    then Some (first_word (after_first_word after_stamp)) else None
