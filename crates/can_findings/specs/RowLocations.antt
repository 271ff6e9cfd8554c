-- Where the entries begin that diagnostics are about.
use Rattle.std.specs.Prelude.{List, [], ◌∷◌, ◌++◌, map}
use Rattle.std.specs.List.{flat_map}
use Rattle.dbc_records.specs.Databases.{Database}
use Rattle.dbc_records.specs.DatabaseEntries.{entry_kinds, keys_of}
use Rattle.dbc_records.specs.declared.database_entry.EntryKind.{EntryKind}
use Rattle.can_diagnostics.specs.declared.diagnostic.Diagnostic.{Diagnostic}
use Rattle.dbc_records.specs.declared.entry_key.EntryKey.{EntryKey}
use Rattle.can_references.specs.RowFaults.{row_fault}
use Rattle.can_findings.specs.declared.finding.Location.TheVariants as locations
use Rattle.can_findings.specs.declared.finding.Finding.{Finding}
use Rattle.dbc_reader.specs.declared.start.Start.{Start}
use Rattle.dbc_reader.specs.declared.start.Starts.{Starts}
use Rattle.dbc_reader.specs.Starts.{entry_starts}
use Rattle.can_findings.specs.Beginnings.{at_starts}

-- an entry that begins there
abbrev pub findings_at : Start → Diagnostic → Finding
findings_at start diagnostic = record { location = locations.One start; diagnostic = diagnostic }

abbrev pub keys_in : List (EntryKey × Start) → List EntryKey
keys_in rows = map (λ row. row.0) rows

-- of entries, given those before them
abbrev pub findings_after : Database → List EntryKey → List (EntryKey × Start) → List Finding
findings_after database before [] = []
findings_after database before (row ∷ rows) =
    map (findings_at row.1) (row_fault database before row.0) ++ findings_after database (before ++ row.0 ∷ []) rows

-- ---- all entries, kind by kind in the order in which they are printed

-- the keys of the entries of a kind, each with where the entry begins
abbrev pub rows_of_kind : Database → Starts → EntryKind → List (EntryKey × Start)
rows_of_kind d starts kind = at_starts (keys_of d kind) (entry_starts starts kind)

unfoldable pub all_rows : Database → Starts → List (EntryKey × Start)
all_rows d starts = flat_map (rows_of_kind d starts) entry_kinds

-- the findings about entries of a database, the keys of those entries, and where all entries begin
pub record EntryFindings : Type 0 where
  pub database : Database
  pub starts : Starts
  pub seen : List EntryKey
  pub findings : List Finding

-- those about the entries of a kind are added
abbrev pub with_entries : EntryFindings → EntryKind × List EntryKey → EntryFindings
with_entries found entries =
    let rows = at_starts entries.1 (entry_starts found.starts entries.0) in
    record found {
      seen = found.seen ++ keys_in rows;
      findings = found.findings ++ findings_after found.database found.seen rows;
    }
