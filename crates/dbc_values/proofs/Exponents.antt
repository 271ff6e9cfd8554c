-- Exponents that are kept exactly near 0 and beyond a bound by their side alone.
use Rattle.std.proofs.Common.{◌≡◌, ℕ, ℤ, pos, ◌^◌, ◌<◌, ◌≤◌, ◌+ℤ◌, ◌-ℤ◌, inl, inr, arith}
use Rattle.std.proofs.lemmas.Int.{ints}
use Rattle.dbc_values.specs.Numbers.{OccursFor}

pub moved : (e w x : ℤ) (after zeros : ℕ) → after < 2 ^ 64 → zeros ≤ 2 ^ 66 → x ≡ ((w -ℤ pos after) +ℤ pos zeros)
    → OccursFor (10 ^ 30) e w → OccursFor 1000 ((e -ℤ pos after) +ℤ pos zeros) x
moved e w x after count b z is (inl same) = inl (omega (arith, ints))
moved e w x after count b z is (inr (inl above)) = inr (inl (omega (arith, ints, above.0), omega (arith, ints, above.1)))
moved e w x after count b z is (inr (inr below)) = inr (inr (omega (arith, ints, below.0), omega (arith, ints, below.1)))
