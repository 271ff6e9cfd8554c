-- Powers of two.
use Rattle.std.proofs.Common.{◌≡◌, ◌<◌, ◌≤◌, ◌^◌, ℕ, true, nat_lt, arith}
use Rattle.std.proofs.Math.Pow.{pow_mono}

pub below_power : (n bits : ℕ) → n < 2 ^ 128 → 128 ≤ bits → nat_lt n (2 ^ bits) ≡ true
below_power n bits small big = let more : 2 ^ 128 ≤ 2 ^ bits = pow_mono big in grind (arith, small, more)
