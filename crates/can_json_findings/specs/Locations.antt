-- Where the messages, signals and entries of a database are in its text, as JSON objects, a line each. Source: the DBC file format,
-- the section of each statement; RFC 8259. The names of the members are the profile of candesk.
use Rattle.std.specs.Prelude.{ℕ, List, [], ◌∷◌, ◌++◌, map, codes}
use Rattle.std.specs.List.{flat_map}
use Rattle.can_json_texts.specs.Members.{object_of, json_text}
use Rattle.dbc_records.specs.Records.{Head, Signal, Message}
use Rattle.dbc_records.specs.Databases.{Database}
use Rattle.dbc_reader.specs.declared.start.Start.{Start}
use Rattle.dbc_reader.specs.declared.start.Starts.{Starts}
use Rattle.dbc_reader.specs.Starts.{entry_starts}
use Rattle.dbc_ranges.specs.declared.range.Range.{Range}
use Rattle.dbc_ranges.specs.Ranges.{Part, Sender, Receiver, Multiplexor, Key, range_of}
use Rattle.dbc_records.specs.declared.database_entry.EntryKind.{EntryKind}
use Rattle.dbc_records.specs.declared.entry_key.EntryKey.{EntryKey}
use Rattle.dbc_records.specs.declared.entry_key.EntryKey.TheVariants as keys
use Rattle.can_diagnostics.specs.declared.subject.Subject.{Subject}
use Rattle.can_diagnostics.specs.declared.subject.Subject.TheVariants as subjects
use Rattle.can_findings.specs.Beginnings.{at_starts, messages_at}
use Rattle.can_findings.specs.RowLocations.{all_rows}
use Rattle.can_json_findings.specs.Findings.{subject_members, at_members}
use Rattle.can_json_findings.specs.Marks.{key_items}

-- ---- locations

-- something of the database, and the parts of the statement or signal that begins there which name it
pub record Location : Type 0 where
  pub subject : Subject
  pub start : Start
  pub parts : List Part

-- `BO_ 500 Motor`
abbrev pub message_location : Head → Start → Location
message_location head start = record {
  subject = subjects.Message head.number head.name;
  start = start;
  parts = Key 3 ∷ [];
}

abbrev pub sender_location : Head → Start → Location
sender_location head start = record {
  subject = subjects.Sender head.number head.name head.sender;
  start = start;
  parts = Sender ∷ [];
}

-- `SG_ Speed`
abbrev pub signal_location : Head → Signal → Start → Location
signal_location head signal start = record {
  subject = subjects.Signal head.number head.name signal.name;
  start = start;
  parts = Key 2 ∷ [];
}

abbrev pub receiver_location : Head → Signal → Start → List ℕ → Location
receiver_location head signal start node = record {
  subject = subjects.Receiver head.number head.name signal.name node;
  start = start;
  parts = Receiver node ∷ [];
}

-- the key of an entry, from its keyword on, and the multiplexor that is named after it: `SG_MUL_VAL_ 500 Speed` and `Mode`
abbrev pub key_parts : EntryKey → List Part
key_parts (keys.Mux number signal) = Key 3 ∷ Multiplexor ∷ []
key_parts key = Key (key_items key) ∷ []

abbrev pub entry_location : EntryKey → Start → Location
entry_location key start = record { subject = subjects.Row key; start = start; parts = key_parts key }

-- ---- lines

-- the object of something with its ranges, and an LF
abbrev pub ranges_line : Subject → List Range → List ℕ
ranges_line subject ranges = json_text (object_of (subject_members subject ++ at_members ranges)) ++ codes "\n"

unfoldable pub location_line : List ℕ → Location → List ℕ
location_line text location = ranges_line location.subject (map (range_of text location.start) location.parts)

-- of a message, and of its sender
unfoldable pub head_lines : List ℕ → Head → Start → List ℕ
head_lines text head start = location_line text (message_location head start) ++ location_line text (sender_location head start)

abbrev pub receiver_lines : List ℕ → Head → Signal → Start → List ℕ
receiver_lines text head signal start =
    flat_map (λ node. location_line text (receiver_location head signal start node)) signal.receivers

-- of a signal, and of its receivers
unfoldable pub signal_lines : List ℕ → Head → Signal → Start → List ℕ
signal_lines text head signal start =
    location_line text (signal_location head signal start) ++ receiver_lines text head signal start

-- of signals that begin there
abbrev pub signals_lines : List ℕ → Head → List Signal → List Start → List ℕ
signals_lines text head signals starts = flat_map (λ signal. signal_lines text head signal.0 signal.1) (at_starts signals starts)

-- of messages, each where it begins and followed by those of its signals; all their signals begin there
abbrev pub message_lines : List ℕ → List Message → List Start → List Start → List ℕ
message_lines text messages heads signals = flat_map (λ m. head_lines text m.message.head m.start
    ++ signals_lines text m.message.head m.message.signals m.signals) (messages_at messages heads signals)

-- of entries, each with where it begins
abbrev pub entry_lines : List ℕ → List (EntryKey × Start) → List ℕ
entry_lines text rows = flat_map (λ row. location_line text (entry_location row.0 row.1)) rows

-- of all messages, and then of all entries, kind by kind in the order in which they are printed
unfoldable pub locations_text : List ℕ → Database → Starts → List ℕ
locations_text text d starts =
    message_lines text d.messages starts.messages starts.signals ++ entry_lines text (all_rows d starts)

-- lines of entries of a text, which begin there
pub record EntryLines : Type 0 where
  pub text : List ℕ
  pub starts : Starts
  pub lines : List ℕ

-- those of the entries of a kind are added
abbrev pub with_entries : EntryLines → EntryKind × List EntryKey → EntryLines
with_entries lines entries = record lines {
  lines = lines.lines ++ entry_lines lines.text (at_starts entries.1 (entry_starts lines.starts entries.0));
}
