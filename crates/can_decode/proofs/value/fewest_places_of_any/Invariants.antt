use Rattle.std.proofs.Common.{◌≡◌}
use Rattle.can_decode.specs.Values.{fewest_places}
use Rattle.can_decode.proofs.value.fewest_places_of_any.Given as goal

-- the decimal places that are left give what all of them give
abbrev pub invariant-loop-after : goal.invariant-loop-after
invariant-loop-after l = fewest_places l.number l.after ≡ fewest_places l.digits l.places

abbrev pub decreases-loop-after : goal.decreases-loop-after
decreases-loop-after l = l.after
