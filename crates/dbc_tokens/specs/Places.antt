-- The positions of the tokens of a text.
use Rattle.std.specs.Prelude.{◌≡◌, ℕ, ◌+◌, ◌-◌, List, [], ◌∷◌, ◌++◌, length, drop}
use Rattle.dbc_tokens.specs.Tokens.{Token, Cut, End, Fault, ◌▸◌, line_feeds, HasTokens}
use Rattle.dbc_tokens.specs.inner.Scanner.{cut_of}

-- the tokens, without how they end
abbrev pub tokens_of : Cut → List Token
tokens_of (End at) = []
tokens_of (Fault at) = []
tokens_of (t ▸ cut) = t ∷ tokens_of cut

-- The bytes of each token are a part of the text after the token before it, its line is given by the line feeds before it, and it
-- records how many bytes remain from its first byte on.
abbrev pub StandInOrder : ℕ → List ℕ → List Token → Type 0
StandInOrder line text [] = Unit {0}
StandInOrder line text (t ∷ tokens) =
    (before following : List ℕ) × (text ≡ before ++ (t.bytes ++ following)) × (t.line ≡ line + line_feeds before)
    × (t.left ≡ length (t.bytes ++ following)) × StandInOrder (t.line + line_feeds t.bytes) following tokens

-- the tokens of a text are in it in their order, none within another
abbrev pub TokensInOrder : Type 0
TokensInOrder = (line : ℕ) (text : List ℕ) (cut : Cut) → HasTokens line 0 text cut → StandInOrder line text (tokens_of cut)

-- from the first byte of each token on, the text has that token and those after it
abbrev pub TokensFromEach : List ℕ → Cut → Type 0
TokensFromEach text (End at) = Unit {0}
TokensFromEach text (Fault at) = Unit {0}
TokensFromEach text (t ▸ cut) = (cut_of t.line (drop (length text - t.left) text) ≡ t ▸ cut) × TokensFromEach text cut
