-- The fault that reading stopped for.
use Rattle.std.proofs.Common.{◌≡◌, ◌⊎◌, Result, Err, refl, inl, inr}
use Rattle.dbc_tokens.specs.declared.fault.ReadFault.{ReadFault}
use Rattle.dbc_reader.specs.declared.stopped.Stopped.{Stopped}
use Rattle.dbc_reader.specs.declared.stopped.Stopped.TheVariants as stops
use Rattle.dbc_tokens.specs.Tokens.{Cut}
use Rattle.dbc_reader.specs.inner.Readers.{Fails, fault_of}
use Rattle.dbc_reader.specs.Pattern.{memory_fault}

pub stopped_reading : {A : Type 0} (stopped : Stopped) (read : Result (A × Cut) ReadFault) → Fails stopped read
    → (fault_of stopped ≡ memory_fault) ⊎ (read ≡ Err (fault_of stopped))
stopped_reading stops.Memory read h = inl refl
stopped_reading (stops.Fault fault) read h = inr h
