-- All diagnostics of a database.
use Rattle.std.specs.Prelude.{List, ◌++◌}
use Rattle.std.specs.List.{flat_map}
use Rattle.dbc_records.specs.Databases.{Database}
use Rattle.can_diagnostics.specs.declared.diagnostic.Diagnostic.{Diagnostic}
use Rattle.can_references.specs.RowFaults.{row_faults}
use Rattle.can_check.specs.MessageFaults.{message_faults}

-- the diagnostics of each message in order, and then those of the entries
unfoldable pub all_faults : Database → List Diagnostic
all_faults database = flat_map (message_faults database) database.messages ++ row_faults database
