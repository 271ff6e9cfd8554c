-- The exit statuses.
use Rattle.std.specs.Prelude.{◌≡◌, ℕ, Result, Ok, Err}
use Rattle.dbc_tokens.specs.declared.fault.Cause.{Cause}
use Rattle.dbc_tokens.specs.declared.fault.Cause.TheVariants as causes
use Rattle.can_line_stream.specs.declared.fault.StreamFault.TheVariants as streams
use Rattle.candesk_runs.specs.declared.fault.RunFault.{RunFault}
use Rattle.candesk_runs.specs.declared.fault.RunFault.TheVariants as faults

-- all went well, or help or the version was asked for
abbrev pub done : ℕ
done = 0

-- the database was rejected
abbrev pub refused : ℕ
refused = 1

-- the database has diagnostics
abbrev pub has_diagnostics : ℕ
has_diagnostics = 1

-- the words name no job
abbrev pub usage : ℕ
usage = 2

-- a file, a read or a write failed, or a line was too long
abbrev pub device : ℕ
device = 3

-- an allocation failed
abbrev pub memory : ℕ
memory = 4

-- the exit status of a text that isn't read
abbrev pub status_of_cause : Cause → ℕ
status_of_cause causes.Memory = memory
status_of_cause causes.Token = refused
status_of_cause causes.Statement = refused
status_of_cause causes.RepeatedSignal = refused
status_of_cause causes.MessagesFull = refused
status_of_cause causes.SignalsFull = refused
status_of_cause causes.Limit = refused

-- the exit status of a fault
abbrev pub status_of_fault : RunFault → ℕ
status_of_fault (faults.Read fault) = status_of_cause fault.cause
status_of_fault faults.Memory = memory
status_of_fault (faults.Stream streams.LongLine) = device
status_of_fault (faults.Stream streams.Read) = device
status_of_fault (faults.Stream streams.Write) = device
status_of_fault (faults.Stream streams.Memory) = memory

-- the exit status of an outcome, by that of what it gives
abbrev pub status_of : {A : Type 0} → (A → ℕ) → Result A RunFault → ℕ
status_of of_value (Ok x) = of_value x
status_of of_value (Err fault) = status_of_fault fault

-- that of success, whatever the value
abbrev pub well : {A : Type 0} → A → ℕ
well x = done

-- the status is that of an outcome of which this holds
abbrev pub Ends : {A : Type 0} → (A → ℕ) → (Result A RunFault → Type 0) → ℕ → Type 0
Ends {A} of_value Holds status = (outcome : Result A RunFault) × Holds outcome × (status ≡ status_of of_value outcome)
