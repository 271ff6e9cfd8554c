-- A verdict that is a refusal.
use Rattle.std.proofs.Common.{◌≡◌, Some, Result, Ok, Err, sym, ap}
use Rattle.dbc_tokens.specs.declared.fault.Cause.{Cause}
use Rattle.dbc_faults.specs.Patterns.{cause_of}

pub refused : {A : Type 0} (judged : Result A Cause) (cause : Cause) → Some cause ≡ cause_of judged → judged ≡ Err cause
refused (Ok x) cause e = absurd cc
refused (Err why) cause e = let same : why ≡ cause = cc in ap (λ (c : Cause). Err c) same
