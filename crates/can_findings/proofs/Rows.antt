-- What is found of entries, one part of them after another.
use Rattle.std.proofs.Common.{◌≡◌, List, [], ◌∷◌, ◌++◌, map, sym, ap, ◌∙◌, append_assoc, append-nil}
use Rattle.std.specs.List.{flat_map, fold}
use Rattle.dbc_records.specs.Databases.{Database}
use Rattle.dbc_records.specs.DatabaseEntries.{entry_kinds, keys_of, keys_by_kind}
use Rattle.dbc_records.specs.declared.database_entry.EntryKind.{EntryKind}
use Rattle.dbc_records.specs.declared.entry_key.EntryKey.{EntryKey}
use Rattle.can_references.specs.RowFaults.{row_fault}
use Rattle.dbc_reader.specs.declared.start.Start.{Start}
use Rattle.dbc_reader.specs.declared.start.Starts.{Starts}
use Rattle.can_findings.specs.declared.finding.Finding.{Finding}
use Rattle.can_findings.specs.RowLocations.{findings_at, keys_in, findings_after, rows_of_kind, all_rows, with_entries}

findings_after-append : (d : Database) (before : List EntryKey) (xs ys : List (EntryKey × Start))
    → findings_after d before (xs ++ ys) ≡ findings_after d before xs ++ findings_after d (before ++ keys_in xs) ys
findings_after-append d before [] ys = ap (λ b. findings_after d b ys) (sym (append-nil before))
findings_after-append d before (x ∷ xs) ys =
    ap (λ r. map (findings_at x.1) (row_fault d before x.0) ++ r) (findings_after-append d (before ++ x.0 ∷ []) xs ys
    ∙ ap (λ b. findings_after d (before ++ x.0 ∷ []) xs ++ findings_after d b ys) (append_assoc before (x.0 ∷ []) (keys_in xs)))
    ∙ sym (append_assoc (map (findings_at x.1) (row_fault d before x.0)) (findings_after d (before ++ x.0 ∷ []) xs)
    (findings_after d (before ++ keys_in (x ∷ xs)) ys))

module _ (d e : Database) (starts : Starts) where
  added : (seen : List EntryKey) (found : List Finding) (kinds : List EntryKind)
      → (fold with_entries (record { database = d; starts = starts; seen = seen; findings = found })
      (map (λ kind. (kind, keys_of e kind)) kinds)).findings
      ≡ found ++ findings_after d seen (flat_map (rows_of_kind e starts) kinds)
  added seen found [] = sym (append-nil found)
  added seen found (kind ∷ kinds) =
      let rows = rows_of_kind e starts kind in
      added (seen ++ keys_in rows) (found ++ findings_after d seen rows) kinds
      ∙ append_assoc found (findings_after d seen rows)
      (findings_after d (seen ++ keys_in rows) (flat_map (rows_of_kind e starts) kinds))
      ∙ ap (λ (r : List Finding). found ++ r)
      (sym (findings_after-append d seen rows (flat_map (rows_of_kind e starts) kinds)))

  pub all_added : (seen : List EntryKey) (found : List Finding)
      → (fold with_entries (record { database = d; starts = starts; seen = seen; findings = found }) (keys_by_kind e)).findings
      ≡ found ++ findings_after d seen (all_rows e starts)
  unfolding all_rows
  all_added seen found = added seen found entry_kinds

-- one list after another
pub pushed_then : (old mid new xs ys : List Finding) → new ≡ mid ++ ys → mid ≡ old ++ xs → new ≡ old ++ (xs ++ ys)
pushed_then old mid new xs ys q p = q ∙ ap (λ (t : List Finding). t ++ ys) p ∙ append_assoc old xs ys
