-- The entries of a database: the statements with a key, kind by kind. Messages and statements kept verbatim have none.
-- Source: the DBC file format, "Structure of the DBC File".
use Rattle.std.specs.Prelude.{List, [], ◌∷◌, map}
use Rattle.std.specs.List.{flat_map}
use Rattle.dbc_records.specs.Databases.{Database}
use Rattle.dbc_records.specs.EntryKeys.{key_of_table, key_of_comment, key_of_definition, key_of_default, key_of_attribute}
use Rattle.dbc_records.specs.EntryKeys.{key_of_values, key_of_float, key_of_mux}
use Rattle.dbc_records.specs.declared.entry_key.EntryKey.{EntryKey}
use Rattle.dbc_records.specs.declared.database_entry.EntryKind.{EntryKind}
use Rattle.dbc_records.specs.declared.database_entry.EntryKind.TheVariants as kinds

-- the kinds, in the order in which they are printed
abbrev pub entry_kinds : List EntryKind
entry_kinds =
    kinds.Table ∷ kinds.Comment ∷ kinds.Definition ∷ kinds.Default ∷ kinds.Attribute ∷ kinds.Values ∷ kinds.Float ∷ kinds.Mux ∷ []

-- the keys of the entries of a kind
abbrev pub keys_of : Database → EntryKind → List EntryKey
keys_of d kinds.Table = map key_of_table d.tables
keys_of d kinds.Comment = map key_of_comment d.comments
keys_of d kinds.Definition = map key_of_definition d.definitions
keys_of d kinds.Default = map key_of_default d.defaults
keys_of d kinds.Attribute = map key_of_attribute d.attributes
keys_of d kinds.Values = map key_of_values d.values
keys_of d kinds.Float = map key_of_float d.floats
keys_of d kinds.Mux = map key_of_mux d.muxes

-- the keys of all entries, a list for each kind
abbrev pub keys_by_kind : Database → List (EntryKind × List EntryKey)
keys_by_kind d = map (λ kind. (kind, keys_of d kind)) entry_kinds

-- the keys of all entries
unfoldable pub entry_keys : Database → List EntryKey
entry_keys d = flat_map (keys_of d) entry_kinds
