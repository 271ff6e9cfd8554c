use Rattle.std.proofs.Common.{◌≡◌, ℕ, ◌-◌, ◌^◌, ◌∙◌, ap, arith}
use Rattle.std.proofs.lemmas.Nat.Bits.{ones_shr}
use Rattle.can_bits.proofs.window.ones_of.Goals as goal

pub returns : goal.returns
returns c =
    let back : 64 - (64 - c.args.length) ≡ c.args.length = omega (arith, c.requires.most) in
    ones_shr 64 (64 - c.args.length) (omega arith) ∙ ap (λ (n : ℕ). 2 ^ n - 1) back
