-- One text printed after another.
use Rattle.std.proofs.Common.{ℕ, List, ◌++◌}
use Rattle.std.specs.Prelude.{Result, Ok, Err}
use Rattle.std.specs.Result.{IsErr}
use Rattle.byte_devices.specs.Device.{Written, Wrote, Broke, Prints}
use Rattle.byte_devices.proofs.Writes.{Wrote-then, Broke-then, Broke-more}

pub Prints-after : {X E : Type 0} (a b c : Written) (r : Result X E) (xs ys : List ℕ) → Wrote a b xs → Prints b c r ys
    → Prints a c r (xs ++ ys)
Prints-after a b c (Ok x) xs ys p q = Wrote-then a b c xs ys p q
Prints-after a b c (Err e) xs ys p q = Broke-then a b c xs ys p q

pub Prints-stop : {X E : Type 0} (a b : Written) (r : Result X E) (xs ys : List ℕ) → IsErr r → Broke a b xs
    → Prints a b r (xs ++ ys)
Prints-stop a b (Ok x) xs ys e p = absurd (cc)
Prints-stop a b (Err x) xs ys e p = Broke-more a b xs ys p

pub ruleset prints = (Prints-after, Prints-stop)
