-- The statements kept verbatim: their tokens, as bytes, without the semicolon that ends them. Source: the DBC file format, "General
-- Definitions" for the tokens, and the sections that define the statements which begin with these words. That they are kept without
-- being judged is the profile of candesk.
use Rattle.std.specs.Prelude.{ℕ, Bool, true, false, ◌&&◌, List, [], ◌∷◌, codes, All, IsTrue}
use Rattle.std.specs.List.{list_any}
use Rattle.std.specs.Str.{bytes_eq}
use Rattle.dbc_values.specs.Lexical.{is_name, is_kept_word}
use Rattle.dbc_values.specs.Pieces.{is_string, IsPiece}

-- ---- statements

-- the first tokens pass these tests, one each
abbrev pub begins : List (List ℕ → Bool) → List (List ℕ) → Bool
begins [] tokens = true
begins (test ∷ tests) [] = false
begins (test ∷ tests) (token ∷ tokens) = test token && begins tests tokens

-- how a statement kept verbatim may begin: with one of their words, or as the value descriptions, the comment or the attribute
-- of an environment variable
abbrev pub kept_beginnings : List (List (List ℕ → Bool))
kept_beginnings =
    (is_kept_word ∷ [])
    ∷ (bytes_eq (codes "VAL_") ∷ is_name ∷ [])
    ∷ (bytes_eq (codes "CM_") ∷ bytes_eq (codes "EV_") ∷ [])
    ∷ (bytes_eq (codes "BA_") ∷ is_string ∷ bytes_eq (codes "EV_") ∷ [])
    ∷ []

-- the tokens begin as a statement kept verbatim does; any may follow
unfoldable pub kept_fits : List (List ℕ) → Bool
kept_fits tokens = list_any (λ tests. begins tests tokens) kept_beginnings

-- the tokens of a statement kept verbatim, without its semicolon
pub record Kept : Type 0 where
  pub tokens : List (List ℕ)

pub record IsKept (statement : Kept) : Type 0 where
  pub tokens : All IsPiece statement.tokens
  pub fit : IsTrue (kept_fits statement.tokens)
