-- What a run of `dump --at` has written when it ends.
use Rattle.std.specs.Prelude.{◌≡◌, ℕ, List, Result, Ok, Err}
use Rattle.dbc_records.specs.Databases.{Database}
use Rattle.byte_devices.specs.Device.{Written, Wrote, Broke}
use Rattle.dbc_reader.specs.Texts.{IsRead}
use Rattle.dbc_reader.specs.Located.{HasLocatedDatabase}
use Rattle.dbc_reader.specs.declared.start.Starts.{Starts}
use Rattle.can_json_findings.specs.Locations.{locations_text}
use Rattle.candesk_runs.specs.declared.fault.RunFault.{RunFault}
use Rattle.candesk_runs.specs.declared.fault.RunFault.TheVariants as faults
use Rattle.can_line_stream.specs.declared.fault.StreamFault.TheVariants as streams

-- the text has a database, whose statements begin there, and this was done with the lines of its locations
abbrev pub WithLocations : List ℕ → (List ℕ → Type 0) → Type 0
WithLocations text Done =
    (database : Database) × (starts : Starts) × HasLocatedDatabase text database starts
    × Done (locations_text text database starts)

-- The lines of all locations were written, or a prefix of them and then a put failed. Or nothing was written, and the fault is the
-- first of the text, or memory ran out.
abbrev pub WritesLocations : List ℕ → Written → Written → Result (Unit {0}) RunFault → Type 0
WritesLocations text old new (Ok u) = WithLocations text (Wrote old new)
WritesLocations text old new (Err (faults.Read fault)) = (new ≡ old) × IsRead text (Err fault)
WritesLocations text old new (Err (faults.Stream streams.Write)) = WithLocations text (Broke old new)
WritesLocations text old new (Err (faults.Stream fault)) = ⊥
WritesLocations text old new (Err faults.Memory) = new ≡ old
