-- What a run of `explain` has written when it ends.
use Rattle.std.specs.Prelude.{◌≡◌, ℕ, List, Result, Ok, Err, ◌⊎◌}
use Rattle.std.specs.List.{flat_map}
use Rattle.dbc_records.specs.Databases.{Database}
use Rattle.byte_devices.specs.Device.{Written, Wrote, Broke}
use Rattle.dbc_tokens.specs.declared.fault.ReadFault.{ReadFault}
use Rattle.dbc_reader.specs.Grammar as grammar
use Rattle.dbc_reader.specs.Texts.{HasFirstFault}
use Rattle.dbc_reader.specs.Located.{HasLocatedDatabase}
use Rattle.dbc_reader.specs.declared.start.Starts.{Starts}
use Rattle.can_findings.specs.declared.finding.Finding.{Finding}
use Rattle.can_findings.specs.Remedies.{explained_text}
use Rattle.dbc_faults.specs.Headlines.{BeginsSo}
use Rattle.can_findings.specs.AllFindings.{all_findings}
use Rattle.candesk_runs.specs.declared.checking.Verdict.{Verdict}
use Rattle.candesk_runs.specs.declared.fault.RunFault.{RunFault}
use Rattle.candesk_runs.specs.declared.fault.RunFault.TheVariants as faults
use Rattle.can_line_stream.specs.declared.fault.StreamFault.TheVariants as streams
use Rattle.candesk_runs.specs.Checking.{verdict_of}

-- The lines of all with their remedies were written, or a prefix of them and then a put failed.
abbrev pub ExplainsAll : List Finding → Written → Written → Result Verdict RunFault → Type 0
ExplainsAll found old new (Ok verdict) = Wrote old new (flat_map explained_text found) × (verdict ≡ verdict_of found)
ExplainsAll found old new (Err (faults.Read fault)) = ⊥
ExplainsAll found old new (Err (faults.Stream streams.Write)) = Broke old new (flat_map explained_text found)
ExplainsAll found old new (Err (faults.Stream fault)) = ⊥
ExplainsAll found old new (Err faults.Memory) = ⊥

-- It ended in this way, or nothing was written, and memory ran out.
abbrev pub ExplainsFound : List Finding → Written → Written → Result Verdict RunFault → Type 0
ExplainsFound found old new (Ok verdict) = ExplainsAll found old new (Ok verdict)
ExplainsFound found old new (Err (faults.Read fault)) = ⊥
ExplainsFound found old new (Err (faults.Stream streams.Write)) = ExplainsAll found old new (Err (faults.Stream streams.Write))
ExplainsFound found old new (Err (faults.Stream fault)) = ⊥
ExplainsFound found old new (Err faults.Memory) = new ≡ old

-- Words on a text with this first fault were written, which begin with its line and its cause, or a prefix of such words, and then
-- a put failed. Or nothing was written, and memory ran out.
abbrev pub ExplainsFault : ReadFault → Written → Written → Result Verdict RunFault → Type 0
ExplainsFault first old new (Ok verdict) = ⊥
ExplainsFault first old new (Err (faults.Read fault)) = (fault ≡ first) × (words : List ℕ) × BeginsSo first words
    × Wrote old new words
ExplainsFault first old new (Err (faults.Stream streams.Write)) = (words : List ℕ) × BeginsSo first words × Broke old new words
ExplainsFault first old new (Err (faults.Stream fault)) = ⊥
ExplainsFault first old new (Err faults.Memory) = new ≡ old

-- The text has a database, whose statements begin there, and its diagnostics were explained in this way; or it has this first
-- fault, and words on it were written.
abbrev pub ExplainsText : List ℕ → Written → Written → Result Verdict RunFault → Type 0
ExplainsText text old new (Ok verdict) = (database : Database) × (starts : Starts) × HasLocatedDatabase text database starts
    × ExplainsFound (all_findings database starts) old new (Ok verdict)
ExplainsText text old new (Err (faults.Read fault)) = HasFirstFault grammar.text text fault
    × ExplainsFault fault old new (Err (faults.Read fault))
ExplainsText text old new (Err (faults.Stream streams.Write)) =
    ((database : Database) × (starts : Starts) × HasLocatedDatabase text database starts
    × ExplainsFound (all_findings database starts) old new (Err (faults.Stream streams.Write)))
    ⊎ ((fault : ReadFault) × HasFirstFault grammar.text text fault × ExplainsFault fault old new (Err (faults.Stream
    streams.Write)))
ExplainsText text old new (Err (faults.Stream fault)) = ⊥
ExplainsText text old new (Err faults.Memory) = new ≡ old
