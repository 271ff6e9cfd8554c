-- Names and symbols are UTF-8.
use Rattle.std.proofs.Common.{◌≡◌, ℕ, ◌<◌, Bool, true, List, [], ◌∷◌, not, ◌&&◌, refl, arith}
use Rattle.std.specs.List.{list_all, list_any}
use Rattle.std.specs.Str.{IsUtf8, bytes_eq}
use Rattle.std.proofs.lemmas.Bool.{and_parts, lt-ltb}
use Rattle.json.proofs.Printed.Utf8.{are_ascii, IsUtf8-are_ascii}
use Rattle.dbc_values.specs.Lexical.{is_letter, is_word_byte, is_word, is_keyword, is_name}
use Rattle.dbc_values.specs.Names.{IsName, IsSymbol, is_symbol, words_after_symbols}
use Rattle.can_json_texts.specs.Texts.{text_of}
use Rattle.can_json_texts.proofs.Spellings.{own_text}

letter_small : (b : ℕ) → is_letter b ≡ true → b < 128
letter_small b is = grind (arith, is)

word_byte_small : (b : ℕ) → is_word_byte b ≡ true → b < 128
word_byte_small b is = grind (arith, is)

word_bytes_ascii : (bytes : List ℕ) → list_all is_word_byte bytes ≡ true → are_ascii bytes ≡ true
word_bytes_ascii [] all = refl
word_bytes_ascii (b ∷ bytes) all =
    let parts = and_parts (is_word_byte b) (list_all is_word_byte bytes) all in
    rw (lt-ltb b 128 (word_byte_small b parts.0)) (word_bytes_ascii bytes parts.1)

word_ascii : (word : List ℕ) → is_word word ≡ true → are_ascii word ≡ true
word_ascii [] is = refl
word_ascii (b ∷ bytes) is =
    let parts = and_parts (is_letter b) (list_all is_word_byte bytes) is in
    rw (lt-ltb b 128 (letter_small b parts.0)) (word_bytes_ascii bytes parts.1)

pub name_utf8 : (name : List ℕ) → IsName name → IsUtf8 name
unfolding is_name
name_utf8 name is = IsUtf8-are_ascii name (word_ascii name (and_parts (is_word name) (not (is_keyword name)) is).0)

symbol_utf8 : (word : List ℕ) → IsSymbol word → IsUtf8 word
unfolding is_symbol
symbol_utf8 word is =
    IsUtf8-are_ascii word (word_ascii word (and_parts (is_word word) (not (list_any (bytes_eq word) words_after_symbols)) is).0)

pub text_of_name : (name : List ℕ) → IsName name → text_of name ≡ name
text_of_name name is = own_text name (name_utf8 name is)

pub text_of_symbol : (word : List ℕ) → IsSymbol word → text_of word ≡ word
text_of_symbol word is = own_text word (symbol_utf8 word is)
