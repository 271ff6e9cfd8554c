-- What a run of `dump` has written when it ends.
use Rattle.std.specs.Prelude.{◌≡◌, ℕ, List, take, Result, Ok, Err}
use Rattle.std.specs.List.{flat_map}
use Rattle.dbc_records.specs.Records.{Message}
use Rattle.dbc_records.specs.Databases.{Database}
use Rattle.byte_devices.specs.Device.{Written, Wrote, Broke}
use Rattle.dbc_reader.specs.Texts.{HasDatabase, IsRead}
use Rattle.can_layout.specs.Diagrams.{picture_of}
use Rattle.can_json_dump.specs.Dumps.{dump_lines}
use Rattle.candesk_runs.specs.declared.fault.RunFault.{RunFault}
use Rattle.candesk_runs.specs.declared.fault.RunFault.TheVariants as faults
use Rattle.can_line_stream.specs.declared.fault.StreamFault.TheVariants as streams

-- the diagrams of messages, one after another
abbrev pub pictures_text : Database → List Message → List ℕ
pictures_text database messages = flat_map (picture_of database) messages

-- All diagrams were written, or a prefix of them and then a put failed. Or those of some first messages were, each whole, and then
-- memory ran out. It ends in this way after the database was read.
abbrev pub Draws : Database → List Message → Written → Written → Result (Unit {0}) RunFault → Type 0
Draws database messages old new (Ok u) = Wrote old new (pictures_text database messages)
Draws database messages old new (Err (faults.Read fault)) = ⊥
Draws database messages old new (Err (faults.Stream streams.Write)) = Broke old new (pictures_text database messages)
Draws database messages old new (Err (faults.Stream fault)) = ⊥
Draws database messages old new (Err faults.Memory) = (count : ℕ) × Wrote old new (pictures_text database (take count messages))

-- The text has a database whose diagrams were written in this way. Or nothing was written, and the fault is the first of the text,
-- or that memory ran out.
abbrev pub DumpsDiagrams : List ℕ → Written → Written → Result (Unit {0}) RunFault → Type 0
DumpsDiagrams text old new (Ok u) = (database : Database) × HasDatabase text database × Draws database database.messages old new
    (Ok u)
DumpsDiagrams text old new (Err (faults.Read fault)) = (new ≡ old) × IsRead text (Err fault)
DumpsDiagrams text old new (Err (faults.Stream streams.Write)) = (database : Database) × HasDatabase text database
    × Draws database database.messages old new (Err (faults.Stream streams.Write))
DumpsDiagrams text old new (Err (faults.Stream fault)) = ⊥
DumpsDiagrams text old new (Err faults.Memory) = (database : Database) × HasDatabase text database
    × Draws database database.messages old new (Err faults.Memory)

-- ---- JSON objects

abbrev pub lines_text : List (List ℕ) → List ℕ
lines_text lines = flat_map (λ line. line) lines

-- All lines were written, or a prefix of them and then a put failed. Or some first ones were, each whole, and then memory ran out.
abbrev pub WritesLines : List (List ℕ) → Written → Written → Result (Unit {0}) RunFault → Type 0
WritesLines lines old new (Ok u) = Wrote old new (lines_text lines)
WritesLines lines old new (Err (faults.Read fault)) = ⊥
WritesLines lines old new (Err (faults.Stream streams.Write)) = Broke old new (lines_text lines)
WritesLines lines old new (Err (faults.Stream fault)) = ⊥
WritesLines lines old new (Err faults.Memory) = (count : ℕ) × Wrote old new (lines_text (take count lines))

-- The text has a database whose objects were written in this way. Or nothing was written, and the fault is the first of the text,
-- or that memory ran out.
abbrev pub DumpsObjects : List ℕ → Written → Written → Result (Unit {0}) RunFault → Type 0
DumpsObjects text old new (Ok u) = (database : Database) × HasDatabase text database
    × WritesLines (dump_lines database) old new (Ok u)
DumpsObjects text old new (Err (faults.Read fault)) = (new ≡ old) × IsRead text (Err fault)
DumpsObjects text old new (Err (faults.Stream streams.Write)) = (database : Database) × HasDatabase text database
    × WritesLines (dump_lines database) old new (Err (faults.Stream streams.Write))
DumpsObjects text old new (Err (faults.Stream fault)) = ⊥
DumpsObjects text old new (Err faults.Memory) = (database : Database) × HasDatabase text database
    × WritesLines (dump_lines database) old new (Err faults.Memory)
