-- How often something was made.
use Rattle.std.specs.Prelude.{◌≡◌, ℕ, zero, suc, ◌+◌, ◌-◌, ◌^◌, ◌<◌, ◌≤◌, min, max}

pub record Meter : Type 0 where
  pub plans : ℕ
  pub pictures : ℕ
  pub lines : ℕ

pub record IsMeter (meter : Meter) : Type 0 where
  pub plans : meter.plans < 2 ^ 64
  pub pictures : meter.pictures < 2 ^ 64
  pub lines : meter.lines < 2 ^ 64

-- one more; a count saturates at the greatest 64-bit number, and none falls
abbrev pub one_more : ℕ → ℕ
one_more count = max count (min (count + 1) (2 ^ 64 - 1))

-- the meter after one more plan, diagram or decoded line
abbrev pub with_plan : Meter → Meter
with_plan meter = record { plans = one_more meter.plans; pictures = meter.pictures; lines = meter.lines }

abbrev pub with_picture : Meter → Meter
with_picture meter = record { plans = meter.plans; pictures = one_more meter.pictures; lines = meter.lines }

abbrev pub with_line : Meter → Meter
with_line meter = record { plans = meter.plans; pictures = meter.pictures; lines = one_more meter.lines }

-- a step, done this many times
abbrev pub repeated : ℕ → (Meter → Meter) → Meter → Meter
repeated zero step meter = meter
repeated (suc times) step meter = step (repeated times step meter)

-- `after` is the meter after at most this many of a step
pub record AtMost (most : ℕ) (step : Meter → Meter) (before after : Meter) : Type 0 where
  pub times : ℕ
  pub few : times ≤ most
  pub is : after ≡ repeated times step before
