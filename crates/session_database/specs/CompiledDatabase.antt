-- What is shown of a database: what making it from scratch defines.
use Rattle.std.specs.Prelude.{◌≡◌, List, map}
use Rattle.dbc_records.specs.Databases.{Database}
use Rattle.can_diagnostics.specs.declared.diagnostic.Diagnostic.{Diagnostic}
use Rattle.can_check.specs.AllFaults.{all_faults}
use Rattle.can_decode.specs.declared.message_index.MessageIndex.{MessageIndex}
use Rattle.can_decode.specs.MessageIndexes.{IsIndexOf}
use Rattle.session_database.specs.declared.diagnosing.FaultCounts.{FaultCounts}
use Rattle.session_database.specs.CompiledMessage.{CompiledMessage, compiled_of}
use Rattle.session_database.specs.Diagnosed.{counts_of}

-- these are all diagnostics of the database, and how many of them are of each message
pub record AreDiagnosed (database : Database) (diagnostics : List Diagnostic) (counts : List FaultCounts) : Type 0 where
  pub diagnosed : diagnostics ≡ all_faults database
  pub counted : counts ≡ map (counts_of database) database.messages

-- these are the diagnostics of the database, and the plans and diagrams of its messages with an index of these
pub record IsShown (database : Database) (diagnostics : List Diagnostic) (counts : List FaultCounts) (compiled : List
    CompiledMessage)
    (messages : MessageIndex) : Type 0 where
  pub diagnosed : AreDiagnosed database diagnostics counts
  pub planned : compiled ≡ map (compiled_of database) database.messages
  pub found : IsIndexOf database messages
