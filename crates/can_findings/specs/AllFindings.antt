-- All diagnostics of a database, and the locations in the text that they are about.
use Rattle.std.specs.Prelude.{List, [], ◌++◌}
use Rattle.dbc_records.specs.Databases.{Database}
use Rattle.can_findings.specs.declared.finding.Finding.{Finding}
use Rattle.dbc_reader.specs.declared.start.Starts.{Starts}
use Rattle.can_findings.specs.RowStarts.{row_starts_of}
use Rattle.can_findings.specs.MessageLocations.{message_findings}
use Rattle.can_findings.specs.RowLocations.{all_rows, findings_after}

-- of each message in order, and then of the entries
unfoldable pub all_findings : Database → Starts → List Finding
all_findings database starts =
    message_findings database (row_starts_of database starts) database.messages starts.messages starts.signals
    ++ findings_after database [] (all_rows database starts)
