-- The diagnostics of entries, kind by kind in the order in which they are printed. For each entry by ascending code. Source: the
-- DBC file format, the section of each kind of entry. What is reported is the profile of candesk.
use Rattle.std.specs.Prelude.{◌==◌, Bool, false, not, ℕ, List, [], ◌++◌, map}
use Rattle.std.specs.Str.{bytes_eq}
use Rattle.dbc_records.specs.Databases.{Database}
use Rattle.dbc_records.specs.declared.target.Target.{Target}
use Rattle.dbc_records.specs.declared.target.Target.TheVariants as targets
use Rattle.can_diagnostics.specs.Diagnostics.{of_row}
use Rattle.dbc_records.specs.EntryKeys.{key_target, same_key}
use Rattle.dbc_records.specs.DatabaseEntries.{entry_keys}
use Rattle.can_diagnostics.specs.declared.code.Code.TheVariants as codes
use Rattle.can_diagnostics.specs.declared.diagnostic.Diagnostic.{Diagnostic}
use Rattle.dbc_records.specs.declared.database_entry.EntryKind.{EntryKind}
use Rattle.dbc_records.specs.declared.entry_key.EntryKey.{EntryKey}
use Rattle.dbc_records.specs.declared.entry_key.EntryKey.TheVariants as keys
use Rattle.can_references.specs.SignalNames.{same_signal}
use Rattle.can_references.specs.Finding.{where_true, occurs_in, each_after}
use Rattle.can_references.specs.CrossReferences.{numbers_of, signals_of, defined_in, is_known_node}

-- ---- entries about things that don't exist

-- no message of the CAN identifier has the signal
abbrev pub lacks_signal : Database → ℕ → List ℕ → Bool
lacks_signal database number name = not (occurs_in same_signal (number, name) (signals_of database))

abbrev pub lacks_target : Database → Target → Bool
lacks_target database targets.Whole = false
lacks_target database (targets.Node name) = not (is_known_node database name)
lacks_target database (targets.Message number) = not (occurs_in (λ a b. a == b) number (numbers_of database))
lacks_target database (targets.Signal number name) = lacks_signal database number name

-- the entry is about a message, a signal or a node that doesn't exist
abbrev pub is_dangling : Database → EntryKey → Bool
is_dangling database key = lacks_target database (key_target key)

abbrev pub lacks_definition : Database → List ℕ → Bool
lacks_definition database name = not (occurs_in bytes_eq name (defined_in database))

-- a default or an attribute that is not defined
abbrev pub is_undefined : Database → EntryKey → Bool
is_undefined database (keys.Default name) = lacks_definition database name
is_undefined database (keys.Attribute name target) = lacks_definition database name
is_undefined database key = false

-- ---- all of them

-- of an entry whose key an earlier entry has, or none
unfoldable pub faults_of_row : Database → Bool → EntryKey → List Diagnostic
faults_of_row database is_repeated key =
    where_true (is_dangling database key) (of_row codes.DanglingRow key)
    ++ (where_true is_repeated (of_row codes.RepeatedRow key)
    ++ where_true (is_undefined database key) (of_row codes.UnknownAttribute key))

-- of an entry, given the entries before it
unfoldable pub row_fault : Database → List EntryKey → EntryKey → List Diagnostic
row_fault database before key = faults_of_row database (occurs_in same_key key before) key

unfoldable pub row_faults : Database → List Diagnostic
row_faults database = each_after (row_fault database) [] (entry_keys database)

-- ---- kind by kind

-- the diagnostics of entries of a database
pub record EntryFaults : Type 0 where
  pub database : Database
  pub found : List Diagnostic

-- those of the entries of a kind are added
abbrev pub with_entries : EntryFaults → EntryKind × List EntryKey → EntryFaults
with_entries faults entries = record faults { found = faults.found ++ each_after (row_fault faults.database) [] entries.1 }
