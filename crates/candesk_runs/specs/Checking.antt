-- What a run of `check` has written when it ends.
use Rattle.std.specs.Prelude.{◌≡◌, ℕ, List, [], ◌∷◌, ◌++◌, codes, Result, Ok, Err, ◌⊎◌}
use Rattle.std.specs.List.{flat_map}
use Rattle.dbc_records.specs.Databases.{Database}
use Rattle.byte_devices.specs.Device.{Written, Wrote, Broke}
use Rattle.byte_devices.specs.Outs.{Took, Lost}
use Rattle.byte_devices.specs.declared.sending.Out.{Out}
use Rattle.dbc_reader.specs.Texts.{HasDatabase, IsRead}
use Rattle.can_diagnostics.specs.declared.diagnostic.Diagnostic.{Diagnostic}
use Rattle.can_diagnostics.specs.Lines.{line_text}
use Rattle.can_check.specs.AllFaults.{all_faults}
use Rattle.dbc_values.specs.declared.stop.Stop.{Stop}
use Rattle.dbc_values.specs.declared.stop.Stop.TheVariants as stops
use Rattle.candesk_runs.specs.declared.checking.Verdict.{Verdict}
use Rattle.candesk_runs.specs.declared.checking.Verdict.TheVariants as verdicts
use Rattle.candesk_runs.specs.declared.fault.RunFault.{RunFault}
use Rattle.candesk_runs.specs.declared.fault.RunFault.TheVariants as faults
use Rattle.can_line_stream.specs.declared.fault.StreamFault.TheVariants as streams
use Rattle.candesk_runs.specs.Statuses.{done, has_diagnostics}

-- a line for each
abbrev pub found_text : List Diagnostic → List ℕ
found_text found = flat_map (λ diagnostic. line_text diagnostic ++ codes "\n") found

-- by what was found
abbrev pub verdict_of : {X : Type 0} → List X → Verdict
verdict_of [] = verdicts.Clean
verdict_of (first ∷ others) = verdicts.HasDiagnostics

-- the verdict on what is found first and what is found then
abbrev pub verdict_then : Verdict → Verdict → Verdict
verdict_then verdicts.Clean later = later
verdict_then verdicts.HasDiagnostics later = verdicts.HasDiagnostics

-- The lines of all were written, or a prefix of them and then a put failed. Or the lines of some first ones were written, and then
-- memory ran out. It ends in this way after the database was read.
abbrev pub Says : List Diagnostic → Written → Written → Result Verdict RunFault → Type 0
Says found old new (Ok verdict) = Wrote old new (found_text found) × (verdict ≡ verdict_of found)
Says found old new (Err (faults.Read fault)) = ⊥
Says found old new (Err (faults.Stream streams.Write)) = Broke old new (found_text found)
Says found old new (Err (faults.Stream fault)) = ⊥
Says found old new (Err faults.Memory) = (first later : List Diagnostic) × (found ≡ first ++ later)
    × Wrote old new (found_text first)

-- The text has a database, and its diagnostics were written in this way. Or nothing was written, and the fault is the first of the
-- text, or that memory ran out.
abbrev pub ChecksAll : List ℕ → Written → Written → Result Verdict RunFault → Type 0
ChecksAll text old new (Ok verdict) = (database : Database) × HasDatabase text database
    × Says (all_faults database) old new (Ok verdict)
ChecksAll text old new (Err (faults.Read fault)) = (new ≡ old) × IsRead text (Err fault)
ChecksAll text old new (Err (faults.Stream streams.Write)) = (database : Database) × HasDatabase text database
    × Says (all_faults database) old new (Err (faults.Stream streams.Write))
ChecksAll text old new (Err (faults.Stream fault)) = ⊥
ChecksAll text old new (Err faults.Memory) = (database : Database) × HasDatabase text database
    × Says (all_faults database) old new (Err faults.Memory)

-- the exit status of a verdict
abbrev pub verdict_status : Verdict → ℕ
verdict_status verdicts.Clean = done
verdict_status verdicts.HasDiagnostics = has_diagnostics

-- ---- lines that are buffered before a sink

-- their lines were sent, and the verdict is that on all so far
abbrev pub TookLines : {W : Type 0} → (W → Written) → Out W → Out W → Verdict → Verdict → List Diagnostic → Type 0
TookLines written old new before after found = Took written old new (found_text found)
    × (after ≡ verdict_then before (verdict_of found))

-- a put failed, or the lines of some first ones were sent
abbrev pub StoppedLines : {W : Type 0} → (W → Written) → Out W → Out W → Stop → List Diagnostic → Type 0
StoppedLines written old new stops.Write found = Lost written old new (found_text found)
StoppedLines written old new stops.Memory found = (first later : List Diagnostic) × (found ≡ first ++ later)
    × Took written old new (found_text first)

-- What was buffered was written, and it ends with the outcome. Or a put failed, and a prefix of it was written.
abbrev pub Flushes : Written → Written → List ℕ → Result Verdict RunFault → Result Verdict RunFault → Type 0
Flushes old new held outcome result = (Wrote old new held × (result ≡ outcome)) ⊎ (Broke old new held × (result
    ≡ Err (faults.Stream streams.Write)))
