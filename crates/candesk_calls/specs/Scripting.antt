-- The outcome of a run of `session`.
use Rattle.std.specs.Prelude.{◌≡◌, ℕ, List, Result, Ok, Err}
use Rattle.byte_devices.specs.Device.{Unread, Written}
use Rattle.session_script.specs.declared.fault.SessionFault.{SessionFault}
use Rattle.session_script.specs.declared.fault.SessionFault.TheVariants as faults
use Rattle.can_session.specs.declared.options.Options.{Options}
use Rattle.session_script.specs.Running.{RunsScript}
use Rattle.candesk_runs.specs.declared.fault.RunFault.{RunFault}
use Rattle.candesk_runs.specs.declared.fault.RunFault.TheVariants as runs

-- as an outcome of any command
abbrev pub outcome_of : Result ℕ SessionFault → Result ℕ RunFault
outcome_of (Ok count) = Ok count
outcome_of (Err (faults.Read fault)) = Err (runs.Read fault)
outcome_of (Err (faults.Stream fault)) = Err (runs.Stream fault)

-- the script was run with this outcome
abbrev pub SessionRuns : List ℕ → Options → Unread → Unread → Written → Written → Result ℕ RunFault → Type 0
SessionRuns text options before after old new outcome =
    (ended : Result ℕ SessionFault) × RunsScript text options before after old new ended × (outcome ≡ outcome_of ended)
