-- What a run of `print` has written when it ends.
use Rattle.std.specs.Prelude.{◌≡◌, ℕ, List, Result, Ok, Err}
use Rattle.dbc_records.specs.Databases.{Database}
use Rattle.dbc_records.specs.CanonicalText.{canonical_text}
use Rattle.byte_devices.specs.Device.{Written, Wrote, Broke}
use Rattle.dbc_reader.specs.Texts.{HasDatabase, IsRead}
use Rattle.candesk_runs.specs.declared.fault.RunFault.{RunFault}
use Rattle.candesk_runs.specs.declared.fault.RunFault.TheVariants as faults
use Rattle.can_line_stream.specs.declared.fault.StreamFault.TheVariants as streams

-- The whole canonical text of a database was written, or a prefix of it and then a put failed.
abbrev pub Prints : Database → Written → Written → Result (Unit {0}) RunFault → Type 0
Prints database old new (Ok u) = Wrote old new (canonical_text database)
Prints database old new (Err (faults.Read fault)) = ⊥
Prints database old new (Err (faults.Stream streams.Write)) = Broke old new (canonical_text database)
Prints database old new (Err (faults.Stream fault)) = ⊥
Prints database old new (Err faults.Memory) = ⊥

-- The text has a database, which was printed in this way. Or nothing was written, and the fault is the first of the text, or
-- that memory ran out.
abbrev pub PrintsText : List ℕ → Written → Written → Result (Unit {0}) RunFault → Type 0
PrintsText text old new (Ok u) = (database : Database) × HasDatabase text database × Prints database old new (Ok u)
PrintsText text old new (Err (faults.Read fault)) = (new ≡ old) × IsRead text (Err fault)
PrintsText text old new (Err (faults.Stream streams.Write)) = (database : Database) × HasDatabase text database
    × Prints database old new (Err (faults.Stream streams.Write))
PrintsText text old new (Err (faults.Stream fault)) = ⊥
PrintsText text old new (Err faults.Memory) = ⊥
