-- The words that statements begin with, except the bit timing and signals. Source: the DBC file format, the
-- section of each statement.
use Rattle.std.specs.Prelude.{ℕ, List, [], ◌∷◌, codes, Option, Some, None, if◌then◌else◌}
use Rattle.std.specs.Str.{bytes_eq}
use Rattle.dbc_values.specs.Lexical.{is_kept_word}
use Rattle.dbc_tokens.specs.Tokens.{Cut, End, Fault, ◌▸◌}
use Rattle.dbc_reader.specs.declared.keyword.StatementKeyword.{StatementKeyword}
use Rattle.dbc_reader.specs.declared.keyword.StatementKeyword.TheVariants as keywords

-- the words that are one keyword each
abbrev pub keyword_words : List (List ℕ × StatementKeyword)
keyword_words =
    (codes "NS_", keywords.Symbols) ∷ (codes "BU_", keywords.Nodes) ∷ (codes "BO_", keywords.Message)
    ∷ (codes "VAL_TABLE_", keywords.Table) ∷ (codes "VAL_", keywords.Values) ∷ (codes "SIG_VALTYPE_", keywords.Float)
    ∷ (codes "SG_MUL_VAL_", keywords.Mux)
    ∷ (codes "CM_", keywords.Comment) ∷ (codes "BA_DEF_", keywords.Definition) ∷ (codes "BA_DEF_DEF_", keywords.Default)
    ∷ (codes "BA_", keywords.Attribute) ∷ []

-- by one of these words, or by one of the words of statements kept verbatim
abbrev pub keyword_among : List (List ℕ × StatementKeyword) → List ℕ → Option StatementKeyword
keyword_among [] word = if is_kept_word word then Some keywords.Kept else None
keyword_among (one ∷ others) word = if bytes_eq word one.0 then Some one.1 else keyword_among others word

-- the keyword that a word is, if it is one
unfoldable pub keyword_of : List ℕ → Option StatementKeyword
keyword_of word = keyword_among keyword_words word

-- the keyword that is here, if there is one
unfoldable pub keyword_at : Cut → Option StatementKeyword
keyword_at (End line) = None
keyword_at (Fault line) = None
keyword_at (t ▸ cut) = keyword_of t.bytes
