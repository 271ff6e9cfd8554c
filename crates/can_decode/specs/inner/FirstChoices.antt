-- Choices with keys.
use Rattle.std.specs.Prelude.{◌≡◌, ◌≤◌, ◌==◌, ⊤, ℕ, List, [], ◌∷◌, Option}
use Rattle.std.specs.Map.{lookup}
use Rattle.can_decode.specs.declared.message_search.Choice.{Choice}

abbrev pub key_of : ℕ × Choice → ℕ
key_of entry = entry.0

-- the first choice with the key
abbrev pub first_choice : ℕ → List (ℕ × Choice) → Option Choice
first_choice key entries = lookup (λ other. other == key) entries

-- the keys do not fall, from one on
abbrev pub RisesFrom : ℕ → List (ℕ × Choice) → Type 0
RisesFrom key [] = ⊤
RisesFrom key (entry ∷ entries) = (key ≤ entry.0) × RisesFrom entry.0 entries

-- the entries of `rest` are in order and not below the key, and the first with it in `whole` is the first there
pub record StartsAt (key : ℕ) (whole rest : List (ℕ × Choice)) : Type 0 where
  pub rises : RisesFrom key rest
  pub first : first_choice key rest ≡ first_choice key whole
