-- What a run of `check --json` or `explain --json` has written when it ends.
use Rattle.std.specs.Prelude.{◌≡◌, ℕ, List, take, Result, Ok, Err, ◌⊎◌}
use Rattle.std.specs.List.{flat_map}
use Rattle.dbc_records.specs.Databases.{Database}
use Rattle.byte_devices.specs.Device.{Written, Wrote, Broke}
use Rattle.dbc_tokens.specs.declared.fault.ReadFault.{ReadFault}
use Rattle.dbc_reader.specs.Grammar as grammar
use Rattle.dbc_reader.specs.Texts.{HasFirstFault}
use Rattle.dbc_reader.specs.Located.{HasLocatedDatabase}
use Rattle.dbc_reader.specs.declared.start.Starts.{Starts}
use Rattle.can_findings.specs.declared.finding.Finding.{Finding}
use Rattle.can_findings.specs.AllFindings.{all_findings}
use Rattle.can_json_findings.specs.Findings.{finding_line}
use Rattle.can_json_findings.specs.Faults.{BeginsWithFault}
use Rattle.candesk_runs.specs.declared.checking.Verdict.{Verdict}
use Rattle.candesk_runs.specs.declared.fault.RunFault.{RunFault}
use Rattle.candesk_runs.specs.declared.fault.RunFault.TheVariants as faults
use Rattle.can_line_stream.specs.declared.fault.StreamFault.TheVariants as streams
use Rattle.candesk_runs.specs.Checking.{verdict_of}

-- the lines of findings, one after another
abbrev pub findings_text : List ℕ → List Finding → List ℕ
findings_text text found = flat_map (finding_line text) found

-- The lines of all were written, or a prefix of them and then a put failed. Or those of some first findings were, each whole, and
-- then memory ran out.
abbrev pub WritesLinesOf : List ℕ → List Finding → Written → Written → Result (Unit {0}) RunFault → Type 0
WritesLinesOf text found old new (Ok u) = Wrote old new (findings_text text found)
WritesLinesOf text found old new (Err (faults.Read fault)) = ⊥
WritesLinesOf text found old new (Err (faults.Stream streams.Write)) = Broke old new (findings_text text found)
WritesLinesOf text found old new (Err (faults.Stream fault)) = ⊥
WritesLinesOf text found old new (Err faults.Memory) = (count : ℕ) × Wrote old new (findings_text text (take count found))

-- it ended in this way, with the verdict on the findings
abbrev pub WritesFindings : List ℕ → List Finding → Written → Written → Result Verdict RunFault → Type 0
WritesFindings text found old new (Ok verdict) = WritesLinesOf text found old new (Ok tt) × (verdict ≡ verdict_of found)
WritesFindings text found old new (Err fault) = WritesLinesOf text found old new (Err fault)

-- the text has a database, whose statements begin there, and its diagnostics were written in this way
abbrev pub WritesFound : List ℕ → Written → Written → Result Verdict RunFault → Type 0
WritesFound text old new outcome = (database : Database) × (starts : Starts) × HasLocatedDatabase text database starts
    × WritesFindings text (all_findings database starts) old new outcome

-- It ended in this way. Or objects of its faults were written, of which the first is that of the first fault, or a prefix of them
-- and then a put failed. Or nothing was written, and memory ran out.
abbrev pub WritesObjects : List ℕ → Written → Written → Result Verdict RunFault → Type 0
WritesObjects text old new (Ok verdict) = WritesFound text old new (Ok verdict)
WritesObjects text old new (Err (faults.Read fault)) = HasFirstFault grammar.text text fault
    × (words : List ℕ) × BeginsWithFault text fault words × Wrote old new words
WritesObjects text old new (Err (faults.Stream streams.Write)) = WritesFound text old new (Err (faults.Stream streams.Write))
    ⊎ ((fault : ReadFault) × (words : List ℕ) × BeginsWithFault text fault words × Broke old new words)
WritesObjects text old new (Err (faults.Stream fault)) = ⊥
WritesObjects text old new (Err faults.Memory) = (new ≡ old) ⊎ WritesFound text old new (Err faults.Memory)
