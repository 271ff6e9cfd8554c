-- A string by its first byte, its last byte and what is between them.
use Rattle.std.proofs.Common.{◌≡◌, ℕ, ◌-◌, ◌≤◌, ◌==◌, ◌&&◌, Bool, List, [], ◌∷◌, ◌++◌, length, get_or, take, ap, ◌∙◌, arith}
use Rattle.std.proofs.lemmas.Grind.{common_steps}
use Rattle.std.proofs.lemmas.List.{take_more}
use Rattle.std.specs.Str.{bytes_eq}
use Rattle.dbc_values.specs.Lexical.{quote, quoted}
use Rattle.dbc_values.specs.Pieces.{inside}

-- two lists that differ at most in their last bytes
bytes_eq-last : (front : List ℕ) (a b : ℕ) → bytes_eq (front ++ a ∷ []) (front ++ b ∷ []) ≡ (a == b)
bytes_eq-last [] a b = grind (arith, common_steps)
bytes_eq-last (x ∷ front) a b = grind (arith, common_steps, bytes_eq-last front a b)

split_last : (xs : List ℕ) → 1 ≤ length xs → xs ≡ take (length xs - 1) xs ++ get_or xs (length xs - 1) 0 ∷ []
split_last xs h = grind (arith, common_steps, take_more xs (length xs - 1) 0)

split_ends : (xs : List ℕ) → 2 ≤ length xs → xs ≡ get_or xs 0 0 ∷ (inside xs ++ get_or xs (length xs - 1) 0 ∷ [])
split_ends [] h = grind arith
split_ends (x ∷ xs) h = grind (arith, common_steps, split_last xs)

-- a list of two bytes or more is a string's if its ends are quotes
pub quoted_by_ends : (bytes : List ℕ) → 2 ≤ length bytes → bytes_eq bytes (quoted (inside bytes))
    ≡ (get_or bytes 0 0 == quote && get_or bytes (length bytes - 1) 0 == quote)
quoted_by_ends bytes h =
    let first = get_or bytes 0 0 in
    let last = get_or bytes (length bytes - 1) 0 in
    ap (λ (t : List ℕ). bytes_eq t (quoted (inside bytes))) (split_ends bytes h)
    ∙ ap (λ (b : Bool). first == quote && b) (bytes_eq-last (inside bytes) last quote)
