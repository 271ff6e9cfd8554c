-- A stream ends in one of five ways; the answer distinguishes them.
use Rattle.std.proofs.Common.{ℕ, List, IfSome, Result, Ok, Err, refl}
use Rattle.std.specs.Prelude.{IfOk, IsErrOf}
use Rattle.byte_devices.specs.Device.{Rises, Unread, Written}
use Rattle.can_line_stream.specs.declared.fault.StreamFault.{StreamFault}
use Rattle.can_line_stream.specs.declared.fault.StreamFault.TheVariants as faults
use Rattle.can_line_stream.specs.Lines.{lines_of}
use Rattle.can_line_stream.specs.Runs.{Rules, StopsAmong, BreaksAmong}
use Rattle.can_line_stream.specs.Stream.{NoneFailed, HandlesAll, EndsAtLong, EndsAtRead, StreamEnds}

module _ {State : Type 0} (rules : Rules State) (most : ℕ) (before after : State) (old new : Written) (unread left : Unread) where
  pub StreamEnds-from : (result : Result ℕ StreamFault)
      → IfOk result (λ count. IfSome unread.bytes (λ input. HandlesAll rules most before old input left.bytes after new count))
      → (IsErrOf result faults.LongLine → IfSome unread.bytes (λ input. EndsAtLong rules most before old input after new))
      → (IsErrOf result faults.Read → EndsAtRead rules most before old unread left after new)
      → (IsErrOf result faults.Write → IfSome unread.bytes (λ input. BreaksAmong rules most before old (lines_of input) after new))
      → (IsErrOf result faults.Memory → IfSome unread.bytes (λ input. StopsAmong rules most before old (lines_of input) after new))
      → (IsErrOf result faults.Write → Rises old.failures new.failures)
      → (IsErrOf result faults.Memory → (state : State) × (line : List ℕ) × rules.Stops state line)
      → ((¬ IsErrOf result faults.Read) → NoneFailed unread left)
      → StreamEnds rules most before old unread left after new result
  StreamEnds-from (Ok count) ok long read write memory failed stopped none = (none (λ is. cc), ok)
  StreamEnds-from (Err faults.LongLine) ok long read write memory failed stopped none = (none (λ is. cc), long refl)
  StreamEnds-from (Err faults.Read) ok long read write memory failed stopped none = read refl
  StreamEnds-from (Err faults.Write) ok long read write memory failed stopped none = (none (λ is. cc), failed refl, write refl)
  StreamEnds-from (Err faults.Memory) ok long read write memory failed stopped none = (none (λ is. cc), stopped refl, memory refl)

pub ruleset ends = (StreamEnds-from)
