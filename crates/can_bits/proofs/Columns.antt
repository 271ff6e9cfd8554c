-- A column with one digit.
use Rattle.std.proofs.Common.{◌≡◌, ℕ, ◌+◌, ◌<◌, List, [], ◌∷◌, ◌++◌, decimal}
use Rattle.std.proofs.lemmas.Fmt.{decimal_digit}
use Rattle.can_bits.specs.Grids.{right}

pub digit_column : (old new : List ℕ) (index : ℕ) → new ≡ old ++ (32 ∷ 32 ∷ 32 ∷ (48 + index) ∷ []) → index < 10
    → new ≡ old ++ right (decimal index)
unfolding right
digit_column old new index pushed small = rw (decimal_digit index small) pushed
