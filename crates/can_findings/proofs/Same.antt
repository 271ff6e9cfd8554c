-- Findings without their locations.
use Rattle.std.proofs.Common.{◌≡◌, List, [], ◌∷◌, ◌++◌, map, take, drop, length, refl, ap, ◌∙◌}
use Rattle.std.specs.List.{flat_map}
use Rattle.dbc_records.specs.Records.{Signal, Message}
use Rattle.dbc_records.specs.Databases.{Database}
use Rattle.dbc_records.specs.DatabaseEntries.{entry_kinds, keys_of, entry_keys}
use Rattle.dbc_records.specs.declared.database_entry.EntryKind.{EntryKind}
use Rattle.can_diagnostics.specs.declared.diagnostic.Diagnostic.{Diagnostic}
use Rattle.dbc_records.specs.declared.entry_key.EntryKey.{EntryKey}
use Rattle.can_references.specs.Finding.{each_after}
use Rattle.can_references.specs.RowFaults.{row_fault, row_faults}
use Rattle.can_check.specs.MessageFaults.{message_faults}
use Rattle.can_check.specs.AllFaults.{all_faults}
use Rattle.can_findings.specs.declared.finding.Finding.{Finding}
use Rattle.dbc_reader.specs.declared.start.Start.{Start}
use Rattle.dbc_reader.specs.declared.start.Starts.{Starts}
use Rattle.can_findings.specs.Beginnings.{first_start, after_first, at_starts}
use Rattle.can_findings.specs.RowStarts.{RowStarts, row_starts_of}
use Rattle.can_findings.specs.MessageLocations.{findings_in, message_findings}
use Rattle.dbc_reader.specs.Starts.{entry_starts}
use Rattle.can_findings.specs.RowLocations.{findings_at, keys_in, findings_after, rows_of_kind, all_rows}
use Rattle.can_findings.specs.AllFindings.{all_findings}

abbrev bare : List Finding → List Diagnostic
bare found = map (λ (p : Finding). p.diagnostic) found

bare-append : (xs ys : List Finding) → bare (xs ++ ys) ≡ bare xs ++ bare ys
bare-append [] ys = refl
bare-append (x ∷ xs) ys = ap (λ (r : List Diagnostic). x.diagnostic ∷ r) (bare-append xs ys)

bare-in : (rows : RowStarts) (signals : List Signal) (start : Start) (starts : List Start) (found : List Diagnostic)
    → bare (map (findings_in rows signals start starts) found) ≡ found
bare-in rows signals start starts [] = refl
bare-in rows signals start starts (d ∷ found) = ap (λ (r : List Diagnostic). d ∷ r) (bare-in rows signals start starts found)

bare-at : (start : Start) (found : List Diagnostic) → bare (map (findings_at start) found) ≡ found
bare-at start [] = refl
bare-at start (d ∷ found) = ap (λ (r : List Diagnostic). d ∷ r) (bare-at start found)

bare-messages : (d : Database) (rows : RowStarts) (messages : List Message) (heads starts : List Start)
    → bare (message_findings d rows messages heads starts) ≡ flat_map (message_faults d) messages
bare-messages d rows [] heads starts = refl
bare-messages d rows (m ∷ messages) heads starts =
    let following = message_findings d rows messages (after_first heads) (drop (length m.signals) starts) in
    let own = take (length m.signals) starts in
    bare-append (map (findings_in rows m.signals (first_start heads) own) (message_faults d m)) following
    ∙ ap (λ (r : List Diagnostic). r ++ bare following) (bare-in rows m.signals (first_start heads) own (message_faults d m))
    ∙ ap (λ (r : List Diagnostic). message_faults d m ++ r)
    (bare-messages d rows messages (after_first heads) (drop (length m.signals) starts))

bare-after : (d : Database) (before : List EntryKey) (rows : List (EntryKey × Start)) → bare (findings_after d before rows)
    ≡ each_after (row_fault d) before (keys_in rows)
bare-after d before [] = refl
bare-after d before (row ∷ rows) =
    let following = findings_after d (before ++ row.0 ∷ []) rows in
    bare-append (map (findings_at row.1) (row_fault d before row.0)) following
    ∙ ap (λ (r : List Diagnostic). r ++ bare following) (bare-at row.1 (row_fault d before row.0))
    ∙ ap (λ (r : List Diagnostic). row_fault d before row.0 ++ r) (bare-after d (before ++ row.0 ∷ []) rows)

-- ---- keys

keys-at : (keys : List EntryKey) (starts : List Start) → keys_in (at_starts keys starts) ≡ keys
keys-at [] starts = refl
keys-at (key ∷ keys) starts = ap (λ (r : List EntryKey). key ∷ r) (keys-at keys (after_first starts))

keys-append : (xs ys : List (EntryKey × Start)) → keys_in (xs ++ ys) ≡ keys_in xs ++ keys_in ys
keys-append [] ys = refl
keys-append (x ∷ xs) ys = ap (λ (r : List EntryKey). x.0 ∷ r) (keys-append xs ys)

keys-of : (d : Database) (starts : Starts) (kinds : List EntryKind) → keys_in (flat_map (rows_of_kind d starts) kinds)
    ≡ flat_map (keys_of d) kinds
keys-of d starts [] = refl
keys-of d starts (kind ∷ kinds) =
    let others = flat_map (rows_of_kind d starts) kinds in
    keys-append (rows_of_kind d starts kind) others
    ∙ ap (λ (r : List EntryKey). r ++ keys_in others) (keys-at (keys_of d kind) (entry_starts starts kind))
    ∙ ap (λ (r : List EntryKey). keys_of d kind ++ r) (keys-of d starts kinds)

keys-all : (d : Database) (starts : Starts) → keys_in (all_rows d starts) ≡ entry_keys d
unfolding all_rows entry_keys
keys-all d starts = keys-of d starts entry_kinds

-- ---- the whole list

pub same_faults : (d : Database) (starts : Starts) → map (λ (p : Finding). p.diagnostic) (all_findings d starts) ≡ all_faults d
unfolding all_findings all_faults row_faults
same_faults d starts =
    let messages = message_findings d (row_starts_of d starts) d.messages starts.messages starts.signals in
    let rows = findings_after d [] (all_rows d starts) in
    bare-append messages rows
    ∙ ap (λ (r : List Diagnostic). r ++ bare rows) (bare-messages d (row_starts_of d starts) d.messages starts.messages
    starts.signals)
    ∙ ap (λ (r : List Diagnostic). flat_map (message_faults d) d.messages ++ r) (bare-after d [] (all_rows d starts)
    ∙ ap (each_after (row_fault d) []) (keys-all d starts))
