-- Lines, put after others.
use Rattle.std.proofs.Common.{◌≡◌, ℕ, List, [], ◌∷◌, ◌++◌, map, refl, sym, ap, ◌∙◌, append_assoc, append-nil}
use Rattle.std.specs.List.{flat_map, fold}
use Rattle.std.proofs.lemmas.Grind.{flat_map-append}
use Rattle.dbc_reader.specs.declared.start.Start.{Start}
use Rattle.dbc_reader.specs.declared.start.Starts.{Starts}
use Rattle.dbc_records.specs.Databases.{Database}
use Rattle.dbc_records.specs.DatabaseEntries.{entry_kinds, keys_of, keys_by_kind}
use Rattle.dbc_records.specs.declared.database_entry.EntryKind.{EntryKind}
use Rattle.dbc_records.specs.declared.entry_key.EntryKey.{EntryKey}
use Rattle.can_findings.specs.RowLocations.{rows_of_kind, all_rows}
use Rattle.can_json_findings.specs.Locations.{location_line, entry_location, entry_lines, with_entries}

-- the later part is first, so that the tactics find what is between
pub pushed_then : (old mid new xs ys : List ℕ) → new ≡ mid ++ ys → mid ≡ old ++ xs → new ≡ old ++ (xs ++ ys)
pushed_then old mid new xs ys last first = last ∙ ap (λ (front : List ℕ). front ++ ys) first ∙ append_assoc old xs ys

-- what was put and what is left are the whole still
pub step : (lines longer whole xs ys : List ℕ) → longer ≡ lines ++ xs → lines ++ (xs ++ ys) ≡ whole → longer ++ ys ≡ whole
step lines longer whole xs ys pushed so_far = pushed_then lines longer _ xs ys refl pushed ∙ so_far

-- ---- entries

module _ (e : Database) (text : List ℕ) (starts : Starts) where
  added : (old : List ℕ) (kinds : List EntryKind)
      → (fold with_entries (record { text = text; starts = starts; lines = old })
      (map (λ kind. (kind, keys_of e kind)) kinds)).lines
      ≡ old ++ entry_lines text (flat_map (rows_of_kind e starts) kinds)
  added old [] = sym (append-nil old)
  added old (kind ∷ kinds) =
      let rows = rows_of_kind e starts kind in
      let others = flat_map (rows_of_kind e starts) kinds in
      added (old ++ entry_lines text rows) kinds
      ∙ append_assoc old (entry_lines text rows) (entry_lines text others)
      ∙ ap (λ (lines : List ℕ). old ++ lines)
      (sym (flat_map-append (λ (row : EntryKey × Start). location_line text (entry_location row.0 row.1)) rows others))

  pub all_added : (old : List ℕ)
      → (fold with_entries (record { text = text; starts = starts; lines = old }) (keys_by_kind e)).lines
      ≡ old ++ entry_lines text (all_rows e starts)
  unfolding all_rows
  all_added old = added old entry_kinds
