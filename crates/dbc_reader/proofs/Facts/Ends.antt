-- A list by its last byte.
use Rattle.std.proofs.Common.{◌≡◌, ℕ, ◌-◌, ◌≤◌, ◌==◌, List, [], ◌∷◌, ◌++◌, length, get_or, take, ap, ◌∙◌, arith}
use Rattle.std.proofs.lemmas.Grind.{common_steps}
use Rattle.std.proofs.lemmas.List.{take_more}
use Rattle.std.specs.Str.{bytes_eq}
use Rattle.dbc_reader.specs.Classes.{front}

-- two lists that differ at most in their last bytes
same_but_last : (xs : List ℕ) (a b : ℕ) → bytes_eq (xs ++ a ∷ []) (xs ++ b ∷ []) ≡ (a == b)
same_but_last [] a b = grind (arith, common_steps)
same_but_last (x ∷ xs) a b = grind (arith, common_steps, same_but_last xs a b)

split_last : (xs : List ℕ) → 1 ≤ length xs → xs ≡ take (length xs - 1) xs ++ get_or xs (length xs - 1) 0 ∷ []
split_last xs h = grind (arith, common_steps, take_more xs (length xs - 1) 0)

pub ends_by_last : (bytes : List ℕ) (last : ℕ) → 1 ≤ length bytes → bytes_eq bytes (front bytes ++ last ∷ [])
    ≡ (get_or bytes (length bytes - 1) 0 == last)
ends_by_last bytes last h =
    ap (λ (t : List ℕ). bytes_eq t (front bytes ++ last ∷ [])) (split_last bytes h)
    ∙ same_but_last (front bytes) (get_or bytes (length bytes - 1) 0) last
