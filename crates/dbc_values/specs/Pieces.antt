-- One token of a statement, as bytes: a string with its quotes, a word, a number without a sign, or a mark other than the
-- semicolon.
-- Source: the DBC file format, "General Definitions".
use Rattle.std.specs.Prelude.{ℕ, ◌-◌, Bool, false, not, ◌||◌, ◌&&◌, ◌==◌, List, [], ◌∷◌, length, take, drop, IsTrue}
use Rattle.std.specs.Str.{bytes_eq}
use Rattle.dbc_values.specs.Lexical.{semicolon, quoted, is_text, is_word, is_number, is_mark}

-- what is between the first byte and the last
abbrev pub inside : List ℕ → List ℕ
inside bytes = take (length bytes - 2) (drop 1 bytes)

-- a text between quotes
unfoldable pub is_string : List ℕ → Bool
is_string bytes = bytes_eq bytes (quoted (inside bytes)) && is_text (inside bytes)

-- a mark, which is one byte, but no semicolon
abbrev pub is_mark_but_semicolon : List ℕ → Bool
is_mark_but_semicolon [] = false
is_mark_but_semicolon (b ∷ bytes) = is_mark b && not (b == semicolon) && length bytes == 0

-- one token, which does not end a statement
unfoldable pub is_piece : List ℕ → Bool
is_piece bytes = is_string bytes || is_word bytes || is_number bytes || is_mark_but_semicolon bytes

abbrev pub IsPiece : List ℕ → Type 0
IsPiece bytes = IsTrue (is_piece bytes)
