-- What a run of `decode` has read and written when it ends.
use Rattle.std.specs.Prelude.{◌≡◌, ◌⊎◌, ℕ, List, Result, Ok, Err}
use Rattle.byte_devices.specs.Device.{Unread, Written, Wrote, Broke}
use Rattle.csv.specs.Writing.{row_text, default_writer}
use Rattle.dbc_records.specs.Databases.{Database}
use Rattle.dbc_reader.specs.Grammar as grammar
use Rattle.dbc_reader.specs.Texts.{HasDatabase, HasFirstFault}
use Rattle.can_line_stream.specs.LineTexts.{StreamsTexts, Streams}
use Rattle.can_line_stream.specs.declared.fault.StreamFault.{StreamFault}
use Rattle.can_line_stream.specs.declared.fault.StreamFault.TheVariants as streams
use Rattle.can_decode.specs.declared.short.Short.{Short}
use Rattle.can_decode.specs.DecodedLines.{Bus, bus_line}
use Rattle.can_json_lines.specs.Lines.{json_line}
use Rattle.can_csv_lines.specs.Rows.{csv_line, header}
use Rattle.candesk_runs.specs.declared.fault.RunFault.{RunFault}
use Rattle.candesk_runs.specs.declared.fault.RunFault.TheVariants as faults

-- nothing was read and nothing was written
pub record IsUntouched (before after : Unread) (old new : Written) : Type 0 where
  pub unread : after ≡ before
  pub written : new ≡ old

-- The texts of the lines of a log are written. Or the log is untouched, and memory ran out.
abbrev pub Writes : (List ℕ → List ℕ) → Unread → Unread → Written → Written → Result ℕ RunFault → Type 0
Writes text_of before after old new (Ok count) = Streams text_of before after old new (Ok count)
Writes text_of before after old new (Err (faults.Stream fault)) = Streams text_of before after old new (Err fault)
Writes text_of before after old new (Err (faults.Read fault)) = ⊥
Writes text_of before after old new (Err faults.Memory) = IsUntouched before after old new

-- The text has a database, and the texts of the lines of a log by it are written. Or the log is untouched, and the fault is the
-- first of the text, or memory ran out.
abbrev pub RunsToTexts : (Database → List ℕ → List ℕ) → List ℕ → Unread → Unread → Written → Written → Result ℕ RunFault → Type 0
RunsToTexts text_of text before after old new (Ok count) = (database : Database) × HasDatabase text database
    × Writes (text_of database) before after old new (Ok count)
RunsToTexts text_of text before after old new (Err (faults.Stream fault)) = (database : Database) × HasDatabase text database
    × Writes (text_of database) before after old new (Err (faults.Stream fault))
RunsToTexts text_of text before after old new (Err (faults.Read fault)) = IsUntouched before after old new
    × HasFirstFault grammar.text text fault
RunsToTexts text_of text before after old new (Err faults.Memory) = IsUntouched before after old new

-- the log is decoded, by the option for truncated frames
abbrev pub Runs : List ℕ → Short → Unread → Unread → Written → Written → Result ℕ RunFault → Type 0
Runs text short before after old new outcome =
    RunsToTexts (λ database. bus_line (record { database = database; short = short })) text before after old new outcome

-- the log is decoded to JSON objects
abbrev pub RunsToJson : List ℕ → Short → Unread → Unread → Written → Written → Result ℕ RunFault → Type 0
RunsToJson text short before after old new outcome =
    RunsToTexts (λ database. json_line (record { database = database; short = short })) text before after old new outcome

-- ---- rows of CSV

-- the rows of the lines are written
abbrev pub StreamsRows : Bus → Unread → Unread → Written → Written → Result ℕ StreamFault → Type 0
StreamsRows bus before after old new result =
    (lines : List (List ℕ)) × StreamsTexts (csv_line bus) before after old new result lines

abbrev pub WritesRows : Bus → Unread → Unread → Written → Written → Result ℕ RunFault → Type 0
WritesRows bus before after old new (Ok count) = StreamsRows bus before after old new (Ok count)
WritesRows bus before after old new (Err (faults.Stream fault)) = StreamsRows bus before after old new (Err fault)
WritesRows bus before after old new (Err (faults.Read fault)) = ⊥
WritesRows bus before after old new (Err faults.Memory) = ⊥

-- the names of the columns
abbrev pub header_text : List ℕ
header_text = row_text default_writer header

-- a put failed in the names of the columns, and no line was read
pub record BreaksInHeader (before after : Unread) (old new : Written) (fault : StreamFault) : Type 0 where
  pub fault_is : fault ≡ streams.Write
  pub unread : after ≡ before
  pub broke : Broke old new header_text

-- the names of the columns are written, and then the rows of the lines
abbrev pub RowsFollowingHeader : Bus → Unread → Unread → Written → Written → Result ℕ RunFault → Type 0
RowsFollowingHeader bus before after old new result =
    (begun : Written) × Wrote old begun header_text × WritesRows bus before after begun new result

-- This holds, or a put failed before. Or the log is untouched, and memory ran out.
abbrev pub WritesCsv : Bus → Unread → Unread → Written → Written → Result ℕ RunFault → Type 0
WritesCsv bus before after old new (Ok count) = RowsFollowingHeader bus before after old new (Ok count)
WritesCsv bus before after old new (Err (faults.Stream fault)) =
    BreaksInHeader before after old new fault ⊎ RowsFollowingHeader bus before after old new (Err (faults.Stream fault))
WritesCsv bus before after old new (Err (faults.Read fault)) = ⊥
WritesCsv bus before after old new (Err faults.Memory) = IsUntouched before after old new

-- The text has a database, and the log is decoded by it to CSV. Or the log is untouched, and the fault is the first of the text,
-- or memory ran out.
abbrev pub RunsToCsv : List ℕ → Short → Unread → Unread → Written → Written → Result ℕ RunFault → Type 0
RunsToCsv text short before after old new (Ok count) = (database : Database) × HasDatabase text database
    × WritesCsv (record { database = database; short = short }) before after old new (Ok count)
RunsToCsv text short before after old new (Err (faults.Stream fault)) = (database : Database) × HasDatabase text database
    × WritesCsv (record { database = database; short = short }) before after old new (Err (faults.Stream fault))
RunsToCsv text short before after old new (Err (faults.Read fault)) = IsUntouched before after old new
    × HasFirstFault grammar.text text fault
RunsToCsv text short before after old new (Err faults.Memory) = IsUntouched before after old new
