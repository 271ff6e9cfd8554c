-- The diagnostics of messages, and how many of them are of each message.
use Rattle.std.specs.Prelude.{List, [], ◌∷◌, length, take, drop}
use Rattle.dbc_records.specs.Records.{Message}
use Rattle.dbc_records.specs.Databases.{Database}
use Rattle.can_diagnostics.specs.declared.diagnostic.Diagnostic.{Diagnostic}
use Rattle.can_references.specs.HeadFaults.{head_faults}
use Rattle.can_check.specs.MessageFaults.{own_faults}
use Rattle.session_database.specs.declared.diagnosing.FaultCounts.{FaultCounts}

-- how many diagnostics a message has
abbrev pub counts_of : Database → Message → FaultCounts
counts_of database message =
    record { of_head = length (head_faults database message); own = length (own_faults database message) }

-- what is left of the diagnostics after those of the next message's head, and after all of that message
abbrev pub after_head : FaultCounts → List Diagnostic → List Diagnostic
after_head counts found = drop counts.of_head found

abbrev pub after_message : FaultCounts → List Diagnostic → List Diagnostic
after_message counts found = drop counts.own (after_head counts found)

-- the own diagnostics of each message, by how many diagnostics each has
abbrev pub own_parts : List FaultCounts → List Diagnostic → List (List Diagnostic)
own_parts [] found = []
own_parts (first ∷ others) found = take first.own (after_head first found) ∷ own_parts others (after_message first found)
