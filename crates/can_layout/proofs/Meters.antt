-- Meters in loops.
use Rattle.std.proofs.Common.{◌≡◌, ℕ, ◌+◌, ◌<◌, ap, refl, ◌∙◌, add-one, sym, arith}
use Rattle.can_layout.specs.Meters.{Meter, repeated, AtMost}

pub one_step : (step : Meter → Meter) (times : ℕ) (meter so_far after : Meter) → so_far ≡ repeated times step meter
    → after ≡ step so_far → after ≡ repeated (times + 1) step meter
one_step step times meter so_far after is next = next ∙ ap step is ∙ ap (λ (n : ℕ). repeated n step meter) (sym (add-one times))

pub none : (most : ℕ) (step : Meter → Meter) (meter : Meter) → AtMost most step meter meter
none most step meter = record { times = 0; few = omega arith; is = refl }

pub some : (most : ℕ) (step : Meter → Meter) (times : ℕ) (meter so_far after : Meter) → times < most
    → so_far ≡ repeated times step meter → after ≡ step so_far → AtMost most step meter after
some most step times meter so_far after within is next = record {
  times = times + 1;
  few = omega (arith, within);
  is = one_step step times meter so_far after is next;
}
