use Rattle.std.proofs.Common.{◌≡◌, ℕ, ◌+◌, ◌*◌, ◌/◌, ◌^◌, sym, ap, ◌∙◌, arith}
use Rattle.dbc_values.proofs.Powers.{tens_apart}
use Rattle.dbc_values.proofs.number.word_digits.Goals as goal

pub loop-front-preserved : goal.loop-front-preserved
loop-front-preserved c =
    let tenfold : c.loop-front.front ≡ c.loop-front.front / 10 * 10 = omega arith in
    let turned : 1 + c.loop-front.zeros ≡ c.loop-front.zeros + 1 = omega arith in
    record {
      value = c.loop-front.invariant.value ∙ ap (λ (n : ℕ). n * 10 ^ c.loop-front.zeros) tenfold
          ∙ sym (tens_apart (c.loop-front.front / 10) 1 c.loop-front.zeros)
          ∙ ap (λ (k : ℕ). c.loop-front.front / 10 * 10 ^ k) turned;
      few = omega (arith, c.loop-front.invariant.few);
    }
