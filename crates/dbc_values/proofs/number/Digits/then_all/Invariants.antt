use Rattle.std.proofs.Common.{ℕ, ◌+◌, ◌≤◌, take}
use Rattle.std.specs.Str.Parse.{digits_value_after}
use Rattle.dbc_values.specs.Numbers.{HasDigits}
use Rattle.dbc_values.proofs.number.Digits.then_all.Given as goal

abbrev pub invariant-loop-digit : goal.invariant-loop-digit
invariant-loop-digit l = record {
  few : l.all.zeros ≤ l.fn.self.zeros + l.digit-index;
  value : (m : ℕ) → HasDigits m l.fn.self.front l.fn.self.zeros → HasDigits (digits_value_after 10 m (take l.digit-index l.digits))
      l.all.front l.all.zeros;
}
