-- Counts of the meter that rise.
use Rattle.std.proofs.Common.{◌≤◌, ℕ, arith}
use Rattle.can_layout.specs.Meters.{Meter}
use Rattle.session_database.specs.CompiledMessage.{Raised}

pub fewer_decoded : (few many : ℕ) (before after : Meter) → few ≤ many → Raised 0 few before after → Raised 0 many before after
fewer_decoded few many before after le h = record {
  no_plan_lost = h.no_plan_lost;
  no_picture_lost = h.no_picture_lost;
  no_line_lost = h.no_line_lost;
  plans = h.plans;
  pictures = h.pictures;
  lines = omega (arith, le, h.lines);
}

-- what was made, and then what was decoded
pub made_then_decoded : (made decoded : ℕ) (before mid after : Meter) → Raised made 0 before mid → Raised 0 decoded mid after
    → Raised made decoded before after
made_then_decoded made decoded before mid after m d = record {
  no_plan_lost = omega (arith, m.no_plan_lost, d.no_plan_lost);
  no_picture_lost = omega (arith, m.no_picture_lost, d.no_picture_lost);
  no_line_lost = omega (arith, m.no_line_lost, d.no_line_lost);
  plans = omega (arith, m.plans, d.plans);
  pictures = omega (arith, m.pictures, d.pictures);
  lines = omega (arith, m.lines, d.lines);
}
