-- From a script run in a session to one run from a text.
use Rattle.std.proofs.Common.{◌≡◌, ℕ, List, [], Result, Ok, Err}
use Rattle.byte_devices.specs.Device.{Unread, Written}
use Rattle.dbc_reader.specs.Texts.{HasDatabase}
use Rattle.can_session.specs.declared.options.Options.{Options}
use Rattle.can_session.specs.States.{State}
use Rattle.session_script.specs.declared.fault.SessionFault.{SessionFault}
use Rattle.session_script.specs.declared.fault.SessionFault.TheVariants as faults
use Rattle.session_script.specs.Running.{RunsScript, ServesSession}

module _ (text : List ℕ) (first last : State) (unread left : Unread) (old new : Written) (read : HasDatabase text first.database)
    (none : first.lines ≡ []) (options : Options) (chosen : first.options ≡ options) where
  pub of_session : (result : Result ℕ SessionFault) → ServesSession first last unread left old new result
      → RunsScript text options unread left old new result
  of_session (Ok count) served = (first, last, read, none, chosen, served)
  of_session (Err (faults.Stream fault)) served = (first, last, read, none, chosen, served)
  of_session (Err (faults.Read fault)) served = absurd served
