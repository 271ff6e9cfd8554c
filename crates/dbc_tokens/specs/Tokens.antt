-- The tokens of a text: gap, token, gap, .., token, gap. Each token is the longest that begins at its position. Source: the DBC
-- file format, "General Definitions": C_identifier, char_string, unsigned_integer and double are given by the lexical forms of
-- dbc_model. That a gap may be empty, that `//` begins a comment, that a sign is a mark of its own and that the longest token is
-- taken is the profile of candesk.
use Rattle.std.specs.Prelude.{◌≡◌, ◌≢◌, ℕ, ◌+◌, ◌≤◌, not, IsTrue, List, [], ◌∷◌, ◌++◌, length, count_by}
use Rattle.std.specs.List.{list_all, flat_map}
use Rattle.dbc_values.specs.Lexical.{line_feed, slash, is_blank, is_line_feed, is_word, is_text, quoted, is_number, is_mark}
use Rattle.dbc_tokens.specs.declared.token.Kind.{Kind}
use Rattle.dbc_tokens.specs.declared.token.Kind.TheVariants.{Text, Word, Number, Mark}

-- ---- tokens

-- the bytes are a token of this kind: a string is a text between quotes, a mark is one byte
abbrev pub IsToken : Kind → List ℕ → Type 0
IsToken Text bytes = (text : List ℕ) × (bytes ≡ quoted text) × IsTrue (is_text text)
IsToken Word bytes = IsTrue (is_word bytes)
IsToken Number bytes = IsTrue (is_number bytes)
IsToken Mark bytes = (mark : ℕ) × (bytes ≡ mark ∷ []) × IsTrue (is_mark mark)

-- the bytes are a token of this kind, and before rest no longer token of any kind begins where they do
pub record IsLongest (kind : Kind) (bytes rest : List ℕ) : Type 0 where
  pub token : IsToken kind bytes
  pub longest : (k : Kind) (front others : List ℕ) → front ++ others ≡ bytes ++ rest → IsToken k front → length front ≤ length bytes

-- no token of any kind begins here
abbrev pub BeginsNoToken : List ℕ → Type 0
BeginsNoToken bytes = (k : Kind) (front others : List ℕ) → front ++ others ≡ bytes → IsToken k front → ⊥

-- ---- gaps

-- a part of a gap: a blank, or a comment with these bytes after its `//`
pub data Part : Type 0 where
  Blank : ℕ → Part
  Comment : List ℕ → Part

-- the bytes of a part
abbrev pub part_bytes : Part → List ℕ
part_bytes (Blank b) = b ∷ []
part_bytes (Comment body) = slash ∷ slash ∷ body

-- a line feed is here, or the text ends
abbrev pub EndsLine : List ℕ → Type 0
EndsLine [] = Unit {0}
EndsLine (b ∷ bytes) = b ≡ line_feed

-- these parts may come before rest: a comment holds no line feed, and runs up to one or to the end of the text
abbrev pub AreParts : List Part → List ℕ → Type 0
AreParts [] rest = Unit {0}
AreParts (Blank b ∷ parts) rest = IsTrue (is_blank b) × AreParts parts rest
AreParts (Comment body ∷ parts) rest = IsTrue (list_all (λ b. not (is_line_feed b)) body)
    × EndsLine (flat_map part_bytes parts ++ rest) × AreParts parts rest

-- blanks and comments, possibly none, that may come before rest
abbrev pub IsGap : List ℕ → List ℕ → Type 0
IsGap gap rest = (parts : List Part) × (gap ≡ flat_map part_bytes parts) × AreParts parts rest

-- no gap but the empty one begins here
abbrev pub BeginsNoGap : List ℕ → Type 0
BeginsNoGap bytes = (gap rest : List ℕ) → gap ++ rest ≡ bytes → IsGap gap rest → gap ≡ []

-- ---- the tokens of a text

-- a token with the line of its first byte, and with how many bytes of the text remain from that byte on
pub record Token : Type 0 where
  pub kind : Kind
  pub bytes : List ℕ
  pub line : ℕ
  pub left : ℕ

-- tokens in order, and how they end: with the text, in this line, or in this line where no token begins
infixr 20 ◌▸◌
pub data Cut : Type 0 where
  End : ℕ → Cut
  Fault : ℕ → Cut
  ◌▸◌ : Token → Cut → Cut

-- how many line feeds the bytes hold
abbrev pub line_feeds : List ℕ → ℕ
line_feeds bytes = count_by is_line_feed bytes

-- a text whose first byte is in this line, with this many bytes after it, has these tokens
abbrev pub HasTokens : ℕ → ℕ → List ℕ → Cut → Type 0
HasTokens line after text (End at) = IsGap text [] × (at ≡ line + line_feeds text)
HasTokens line after text (Fault at) =
    (gap rest : List ℕ) × (text ≡ gap ++ rest) × IsGap gap rest × (at ≡ line + line_feeds gap)
    × (rest ≢ []) × BeginsNoGap rest × BeginsNoToken rest
HasTokens line after text (t ▸ cut) =
    (gap rest : List ℕ) × (text ≡ gap ++ (t.bytes ++ rest)) × IsGap gap (t.bytes ++ rest) × (t.line ≡ line + line_feeds gap)
    × (t.left ≡ length (t.bytes ++ rest) + after) × IsLongest t.kind t.bytes rest
    × HasTokens (t.line + line_feeds t.bytes) after rest cut
