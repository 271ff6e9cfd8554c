-- The lexical forms of a database text, as tests on bytes: which bytes are a blank, a mark, a word, a keyword, a name, a string and
-- a number. Names, texts and decimals are defined in the same terms as tokens. Source: the DBC file format, "General Definitions"
-- (C_identifier, char_string, unsigned_integer, double) and the keywords that its later sections begin with. That strings are bytes
-- without an encoding, that `//` begins a comment and that a text may not end in a backslash is the profile of candesk.
use Rattle.std.specs.Prelude.{ℕ, ◌-◌, Bool, true, false, not, ◌||◌, ◌&&◌, ◌==◌, nat_le, List, [], ◌∷◌, ◌++◌, length, slice_index}
use Rattle.std.specs.Prelude.{codes, if◌then◌else◌}
use Rattle.std.specs.List.{list_any, list_all, before_first, after_first}
use Rattle.std.specs.Str.{bytes_eq}

-- ---- bytes

abbrev pub tab : ℕ
tab = 9

abbrev pub line_feed : ℕ
line_feed = 10

abbrev pub carriage_return : ℕ
carriage_return = 13

abbrev pub space : ℕ
space = 32

abbrev pub quote : ℕ
quote = 34

abbrev pub opening_parenthesis : ℕ
opening_parenthesis = 40

abbrev pub closing_parenthesis : ℕ
closing_parenthesis = 41

abbrev pub plus : ℕ
plus = 43

abbrev pub comma : ℕ
comma = 44

abbrev pub minus : ℕ
minus = 45

abbrev pub point : ℕ
point = 46

abbrev pub slash : ℕ
slash = 47

abbrev pub digit_zero : ℕ
digit_zero = 48

abbrev pub digit_nine : ℕ
digit_nine = 57

abbrev pub colon : ℕ
colon = 58

abbrev pub semicolon : ℕ
semicolon = 59

abbrev pub at_sign : ℕ
at_sign = 64

abbrev pub capital_a : ℕ
capital_a = 65

abbrev pub capital_e : ℕ
capital_e = 69

abbrev pub capital_z : ℕ
capital_z = 90

abbrev pub opening_bracket : ℕ
opening_bracket = 91

abbrev pub backslash : ℕ
backslash = 92

abbrev pub closing_bracket : ℕ
closing_bracket = 93

abbrev pub underscore : ℕ
underscore = 95

abbrev pub small_a : ℕ
small_a = 97

abbrev pub small_e : ℕ
small_e = 101

abbrev pub small_m : ℕ
small_m = 109

abbrev pub small_z : ℕ
small_z = 122

abbrev pub bar : ℕ
bar = 124

-- space, tab, carriage return, line feed
abbrev pub is_blank : ℕ → Bool
is_blank b = b == space || b == tab || b == carriage_return || b == line_feed

abbrev pub is_line_feed : ℕ → Bool
is_line_feed b = b == line_feed

-- `0` to `9`
abbrev pub is_digit : ℕ → Bool
is_digit b = nat_le digit_zero b && nat_le b digit_nine

-- an ASCII letter or an underscore
abbrev pub is_letter : ℕ → Bool
is_letter b = (nat_le capital_a b && nat_le b capital_z) || (nat_le small_a b && nat_le b small_z) || b == underscore

abbrev pub is_word_byte : ℕ → Bool
is_word_byte b = is_letter b || is_digit b

abbrev pub is_mark : ℕ → Bool
is_mark b = list_any (λ mark. b == mark) (codes ":;|@()[],+-")

-- `+` or `-`
abbrev pub is_sign : ℕ → Bool
is_sign b = b == plus || b == minus

-- `E` or `e`
abbrev pub is_exponent_mark : ℕ → Bool
is_exponent_mark b = b == capital_e || b == small_e

abbrev pub is_point : ℕ → Bool
is_point b = b == point

-- ---- words and names

-- a letter or an underscore, and then letters, digits and underscores
abbrev pub is_word : List ℕ → Bool
is_word [] = false
is_word (b ∷ bytes) = is_letter b && list_all is_word_byte bytes

-- the words that begin the lists and statements whose parts are checked
abbrev pub statement_words : List (List ℕ)
statement_words =
    codes "NS_" ∷ codes "BS_" ∷ codes "BU_" ∷ codes "BO_" ∷ codes "SG_" ∷ codes "CM_" ∷ codes "BA_" ∷ codes "VAL_"
    ∷ codes "VAL_TABLE_"
    ∷ codes "BA_DEF_" ∷ codes "BA_DEF_DEF_" ∷ codes "SIG_VALTYPE_" ∷ codes "SG_MUL_VAL_" ∷ []

-- the words that begin the statements which are kept verbatim
abbrev pub kept_words : List (List ℕ)
kept_words =
    codes "BO_TX_BU_" ∷ codes "EV_" ∷ codes "ENVVAR_DATA_" ∷ codes "EV_DATA_" ∷ codes "SIG_GROUP_" ∷ codes "SGTYPE_"
    ∷ codes "SGTYPE_VAL_"
    ∷ codes "SIG_TYPE_REF_" ∷ codes "SIGTYPE_VALTYPE_" ∷ codes "BA_DEF_SGTYPE_" ∷ codes "BA_SGTYPE_" ∷ codes "BA_DEF_REL_"
    ∷ codes "BA_REL_"
    ∷ codes "BA_DEF_DEF_REL_" ∷ codes "CAT_DEF_" ∷ codes "CAT_" ∷ []

abbrev pub is_kept_word : List ℕ → Bool
is_kept_word word = list_any (bytes_eq word) kept_words

-- the words that are only inside other statements
abbrev pub relation_words : List (List ℕ)
relation_words = codes "BU_SG_REL_" ∷ codes "BU_EV_REL_" ∷ codes "BU_BO_REL_" ∷ []

-- `VERSION` is no keyword here: it is one as the first token of a text alone
unfoldable pub is_keyword : List ℕ → Bool
is_keyword word = list_any (bytes_eq word) (statement_words ++ (kept_words ++ relation_words))

-- the last byte is an underscore
abbrev pub ends_in_underscore : List ℕ → Bool
ends_in_underscore word = slice_index word (length word - 1) == underscore

-- a C identifier that is no keyword
unfoldable pub is_name : List ℕ → Bool
is_name word = is_word word && not (is_keyword word)

-- ---- texts and strings

-- each quote is directly after a backslash, and the last byte is no backslash; `after` is true if the byte before is one
abbrev pub is_text_after : Bool → List ℕ → Bool
is_text_after after [] = not after
is_text_after after (b ∷ bytes) = (if b == quote then after else true) && is_text_after (b == backslash) bytes

-- what may be between the quotes of a string
unfoldable pub is_text : List ℕ → Bool
is_text bytes = is_text_after false bytes

-- the token of a text
abbrev pub quoted : List ℕ → List ℕ
quoted text = quote ∷ (text ++ quote ∷ [])

-- ---- numbers

-- digits, perhaps with one point among, before or after them, and at least one digit
abbrev pub is_mantissa : List ℕ → Bool
is_mantissa bytes = list_all is_digit (before_first is_point bytes) && list_all is_digit (after_first is_point bytes) && list_any
    is_digit bytes

-- at least one digit, and digits alone
abbrev pub is_digits : List ℕ → Bool
is_digits [] = false
is_digits (b ∷ bytes) = list_all is_digit (b ∷ bytes)

-- perhaps a sign, and digits
abbrev pub is_signed_digits : List ℕ → Bool
is_signed_digits [] = false
is_signed_digits (b ∷ bytes) = if is_sign b then is_digits bytes else is_digits (b ∷ bytes)

-- a mantissa, and perhaps `E` or `e` with an exponent
unfoldable pub is_number : List ℕ → Bool
is_number bytes =
    is_mantissa (before_first is_exponent_mark bytes)
    && (if list_any is_exponent_mark bytes then is_signed_digits (after_first is_exponent_mark bytes) else true)
