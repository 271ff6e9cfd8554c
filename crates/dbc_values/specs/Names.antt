-- What names, texts and symbols are.
-- Source: the DBC file format, "General Definitions", "Version and New Symbol Specification".
use Rattle.std.specs.Prelude.{ℕ, Bool, not, ◌&&◌, List, [], ◌∷◌, codes, IsTrue}
use Rattle.std.specs.List.{list_any}
use Rattle.std.specs.Str.{bytes_eq}
use Rattle.dbc_values.specs.Lexical.{is_word, is_name, is_text}

abbrev pub IsName : List ℕ → Type 0
IsName name = IsTrue (is_name name)

abbrev pub IsText : List ℕ → Type 0
IsText text = IsTrue (is_text text)

-- the words that end the list of symbols
abbrev pub words_after_symbols : List (List ℕ)
words_after_symbols = codes "BS_" ∷ codes "BU_" ∷ codes "BO_" ∷ []

-- a word of the list of symbols ("Version and New Symbol Specification"), which may be a keyword
unfoldable pub is_symbol : List ℕ → Bool
is_symbol word = is_word word && not (list_any (bytes_eq word) words_after_symbols)

abbrev pub IsSymbol : List ℕ → Type 0
IsSymbol word = IsTrue (is_symbol word)
