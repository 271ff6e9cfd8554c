-- The parts of the text that findings are about.
-- Source: the DBC file format, the section of each statement. Which part a diagnostic is about is the profile of candesk.
use Rattle.std.specs.Prelude.{ℕ, ◌+◌, List, [], ◌∷◌, Some, None}
use Rattle.dbc_records.specs.declared.target.Target.{Target}
use Rattle.dbc_records.specs.declared.target.Target.TheVariants as targets
use Rattle.dbc_reader.specs.declared.start.Start.{Start}
use Rattle.dbc_ranges.specs.declared.range.Range.{Range}
use Rattle.dbc_ranges.specs.Ranges.{Part, Number, Name, Sender, Position, Length, Scale, Receiver, Multiplexor, FloatKind}
use Rattle.dbc_ranges.specs.Ranges.{Value, Key, range_of}
use Rattle.dbc_records.specs.declared.entry_key.EntryKey.{EntryKey}
use Rattle.dbc_records.specs.declared.entry_key.EntryKey.TheVariants as keys
use Rattle.can_diagnostics.specs.declared.code.Code.{Code}
use Rattle.can_diagnostics.specs.declared.code.Code.TheVariants as codes
use Rattle.can_diagnostics.specs.declared.subject.Subject.{Subject}
use Rattle.can_diagnostics.specs.declared.subject.Subject.TheVariants as subjects
use Rattle.can_findings.specs.declared.finding.Finding.{Finding}
use Rattle.can_findings.specs.declared.finding.Location.{Location}
use Rattle.can_findings.specs.declared.finding.Location.TheVariants as locations

-- the message's CAN identifier, or its name if another has the same
abbrev pub message_part : Code → Part
message_part codes.SharedName = Name
message_part code = Number

-- the multiplexor of a signal or of its entry, the kind of float, the length, from factor to offset, or from start
-- bit to byte order
abbrev pub signal_part : Code → Part
signal_part codes.NoSwitch = Multiplexor
signal_part codes.BadMuxRow = Multiplexor
signal_part codes.SwitchLoop = Multiplexor
signal_part codes.Float = FloatKind
signal_part codes.Long = Length
signal_part codes.Scale = Scale
signal_part code = Position

-- which of several equal value descriptions is marked, from 0: the second if it is a repetition, otherwise the first
abbrev pub repetition : Code → ℕ
repetition codes.RepeatedValue = 1
repetition code = 0

-- how many items name what an entry describes, like `BU_ Ecu`, `BO_ 500` or `SG_ 500 Speed`
abbrev pub target_items : Target → ℕ
target_items targets.Whole = 0
target_items (targets.Node name) = 2
target_items (targets.Message number) = 2
target_items (targets.Signal number name) = 3

-- How many items the key of an entry has: its keyword, what it describes, and the name of a table or an attribute. A definition
-- names the kind of object that it is for, like `BA_DEF_ BO_ "Cycle"`, if it isn't for the whole database.
abbrev pub key_items : EntryKey → ℕ
key_items (keys.Table name) = 2
key_items (keys.Comment target) = 1 + target_items target
key_items (keys.Definition None name) = 2
key_items (keys.Definition (Some object) name) = 3
key_items (keys.Default name) = 2
key_items (keys.Attribute name target) = 2 + target_items target
key_items (keys.Values number signal) = 3
key_items (keys.Float number signal) = 3
key_items (keys.Mux number signal) = 3

-- The part that a diagnostic is about. That of an entry is its key, from its keyword on.
abbrev pub part_about : Code → Subject → Part
part_about code (subjects.Message number name) = message_part code
part_about code (subjects.Sender number name node) = Sender
part_about code (subjects.Signal number name signal) = signal_part code
part_about code (subjects.Pair number name first second) = Position
part_about code (subjects.Receiver number name signal node) = Receiver node
part_about code (subjects.Value number name signal value) = Value value (repetition code)
part_about code (subjects.Row key) = Key (key_items key)

-- of the statement or signal that begins there, or of both
abbrev pub ranges_at : List ℕ → Part → Location → List Range
ranges_at text part (locations.One start) = range_of text start part ∷ []
ranges_at text part (locations.Both first second) = range_of text first part ∷ range_of text second part ∷ []

abbrev pub ranges_of : List ℕ → Finding → List Range
ranges_of text finding = ranges_at text (part_about finding.diagnostic.code finding.diagnostic.subject) finding.location
