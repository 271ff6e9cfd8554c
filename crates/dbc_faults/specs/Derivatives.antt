-- What contracts see of a walk over tokens, and of the location that it finds.
use Rattle.std.specs.Prelude.{◌≡◌, Bool, true, false, Option, Some, None, Result, Ok, Err, map}
use Rattle.dbc_tokens.specs.declared.fault.Cause.{Cause}
use Rattle.dbc_tokens.specs.declared.fault.Cause.TheVariants as causes
use Rattle.dbc_tokens.specs.Tokens.{Cut, Token}
use Rattle.dbc_tokens.specs.Views.{left, cut_from}
use Rattle.dbc_reader.specs.Pattern.{Pattern, left_then, after}
use Rattle.dbc_faults.specs.declared.location.FaultLocation.{FaultLocation}
use Rattle.dbc_faults.specs.declared.location.TextPosition.{TextPosition}
use Rattle.dbc_faults.specs.declared.derivative.Derivative.{Derivative}
use Rattle.dbc_faults.specs.Patterns.{class_of, seen_of, stacked}
use Rattle.dbc_faults.specs.FaultLocations.{State, Found, left_so}

abbrev pub state_of : Derivative → State
state_of derivative = (stacked derivative.left.items, seen_of derivative.seen)

-- what a token leaves if this pattern is before the state's, or why the pattern does not take it
abbrev pub step_by : Pattern → State → Token → Result State Cause
step_by p state t = left_so (left_then (after p t state.1) state.0) t state.1

-- no pattern takes the token
abbrev pub is_unfit : Option Cause → Bool
is_unfit (Some causes.Statement) = true
is_unfit (Some cause) = false
is_unfit None = false

-- the token is taken, and this is left and seen now; otherwise the cause is reported, and all is as before, including each
-- pattern that is left
abbrev pub Steps : Result State Cause → Option Cause → Derivative → Derivative → Type 0
Steps judged None before now = judged ≡ Ok (state_of now)
Steps judged (Some cause) before now =
    (judged ≡ Err cause) × (now.left.items ≡ before.left.items) × (seen_of now.seen ≡ seen_of before.seen)

-- the tokens from a location on
abbrev pub left_at : TextPosition → Cut
left_at spot = cut_from spot.next (left spot.after)

abbrev pub found_of : FaultLocation → Found
found_of location = record {
  fault = location.fault;
  before = location.before.now;
  token = location.token.now;
  following = location.following.now;
  expected = map class_of location.expected.items;
}
