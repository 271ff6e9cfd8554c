-- Where the statements and signals begin that diagnostics of messages are about.
use Rattle.std.specs.Prelude.{ℕ, List, [], Option, Some, None, option_map, map}
use Rattle.std.specs.List.{find, flat_map}
use Rattle.std.specs.Str.{bytes_eq}
use Rattle.dbc_records.specs.Records.{Signal, Message}
use Rattle.dbc_records.specs.Databases.{Database}
use Rattle.can_diagnostics.specs.declared.code.Code.{Code}
use Rattle.can_diagnostics.specs.declared.code.Code.TheVariants as codes
use Rattle.can_diagnostics.specs.declared.diagnostic.Diagnostic.{Diagnostic}
use Rattle.can_diagnostics.specs.declared.subject.Subject.{Subject}
use Rattle.can_diagnostics.specs.declared.subject.Subject.TheVariants as subjects
use Rattle.can_check.specs.MessageFaults.{message_faults}
use Rattle.can_findings.specs.declared.finding.Location.{Location}
use Rattle.can_findings.specs.declared.finding.Location.TheVariants as locations
use Rattle.can_findings.specs.declared.finding.Finding.{Finding}
use Rattle.dbc_reader.specs.declared.start.Start.{Start}
use Rattle.can_findings.specs.Beginnings.{no_start, at_starts, messages_at}
use Rattle.can_findings.specs.RowStarts.{KeyStart, RowStarts, key_starts, start_of_key}

-- where the entry begins, if there is one, otherwise the signal
abbrev pub start_or : Option Start → Start → Start
start_or None start = start
start_or (Some row_start) start = row_start

-- where the first signal of the name begins
abbrev pub signal_start : List ℕ → List Signal → List Start → Start
signal_start name signals starts =
    start_or (option_map (λ signal. signal.1) (find (λ signal. bytes_eq signal.0.name name) (at_starts signals starts))) no_start

-- the names of a message's signals, each with where the signal begins; its CAN identifier is left out
abbrev pub signal_starts : List Signal → List Start → List KeyStart
signal_starts signals starts = key_starts (λ _. 0) (λ signal. signal.name) signals starts

-- The entries one of which is at fault if the code is reported of a signal: its multiplexing entry names its multiplexor, and its
-- float entry makes its values floats.
abbrev pub rows_at_fault : Code → RowStarts → List KeyStart
rows_at_fault codes.NoSwitch rows = rows.muxes
rows_at_fault codes.BadMuxRow rows = rows.muxes
rows_at_fault codes.SwitchLoop rows = rows.muxes
rows_at_fault codes.Float rows = rows.floats
rows_at_fault code rows = []

-- Where the message, the signal or the signal's entry that it is about begins, or both signals. A value description is in the first
-- entry of its signal.
abbrev pub location_of : RowStarts → List Signal → Start → List Start → Code → Subject → Location
location_of rows signals start starts code (subjects.Message number name) = locations.One start
location_of rows signals start starts code (subjects.Sender number name node) = locations.One start
location_of rows signals start starts code (subjects.Signal number name signal) =
    locations.One (start_or (start_of_key number signal (rows_at_fault code rows)) (signal_start signal signals starts))
location_of rows signals start starts code (subjects.Pair number name first second) =
    locations.Both (signal_start first signals starts) (signal_start second signals starts)
location_of rows signals start starts code (subjects.Receiver number name signal node) = locations.One (signal_start signal signals
    starts)
location_of rows signals start starts code (subjects.Value number name signal value) =
    locations.One (start_or (start_of_key number signal rows.values) (signal_start signal signals starts))
location_of rows signals start starts code (subjects.Row key) = locations.One start

-- in a message that begins there, and its signals there
abbrev pub findings_in : RowStarts → List Signal → Start → List Start → Diagnostic → Finding
findings_in rows signals start starts diagnostic =
    record { location = location_of rows signals start starts diagnostic.code diagnostic.subject; diagnostic = diagnostic }

-- of messages, each where it begins, and of all their signals
abbrev pub message_findings : Database → RowStarts → List Message → List Start → List Start → List Finding
message_findings database rows messages heads signals =
    flat_map (λ m. map (findings_in rows m.message.signals m.start m.signals) (message_faults database m.message))
    (messages_at messages heads signals)
