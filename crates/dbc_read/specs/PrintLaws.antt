-- Printing and reading: the tokens of what is printed spell it, and nothing else.
use Rattle.std.specs.Prelude.{◌≡◌, ℕ, IsTrue, IfSome, List, [], ◌∷◌, ◌++◌, ◌+◌, Option, length}
use Rattle.dbc_values.specs.Lexical.{line_feed}
use Rattle.dbc_records.specs.Layout.{Layout, layout_text}
use Rattle.dbc_records.specs.CanonicalText.{canonical_text}
use Rattle.dbc_records.specs.Databases.{Database, IsDatabase, IsBitTiming, timing_fits}
use Rattle.dbc_values.specs.Decimals.{Decimal}
use Rattle.dbc_tokens.specs.Tokens.{Token, Cut, End, HasTokens}
use Rattle.dbc_reader.specs.Forms.{Part, Spelled, ◌▸▸◌}
use Rattle.dbc_reader.specs.Spelling.{timing_of}
use Rattle.dbc_reader.specs.Texts.{HasDatabase}

-- each such value is printed as a text whose tokens, wherever the text is, spell it by its form, and spell no other such value
abbrev pub PrintedUniquely : {A : Type 0} → (A → Type 0) → (A → Layout) → (A → List Part) → Type 0
PrintedUniquely {A} IsSuch layout form =
    (a : A) → IsSuch a → (line after : ℕ) → (tokens : List Token) × (at : ℕ)
    × HasTokens line after (layout_text (layout a)) (tokens ▸▸ End at) × Spelled (form a) tokens
    × ((other : A) → IsSuch other → Spelled (form other) tokens → other ≡ a)

-- the values of a bit timing: decimals, none of them negative
abbrev pub IsTiming : Option (Decimal × Decimal × Decimal) → Type 0
IsTiming numbers = IfSome (timing_of (numbers ∷ [])) IsBitTiming × IsTrue (timing_fits (timing_of (numbers ∷ [])))

-- a text that ends in a line feed, and another after it, have the tokens of both
abbrev pub LinesJoin : Type 0
LinesJoin =
    (line at after : ℕ) (text more : List ℕ) (tokens : List Token) (cut : Cut)
    → HasTokens line (length more + after) (text ++ line_feed ∷ []) (tokens ▸▸ End at) → HasTokens at after more cut
    → HasTokens line after ((text ++ line_feed ∷ []) ++ more) (tokens ▸▸ cut)

-- the canonical text of a database has that database, and no other
abbrev pub PrintLaw : Type 0
PrintLaw =
    (database : Database) → IsDatabase database → HasDatabase (canonical_text database) database
    × ((other : Database) → HasDatabase (canonical_text database) other → other ≡ database)
