-- The keys of entries: what an entry describes, and how it is printed up to there. Source: the DBC file format, the
-- section of each statement.
use Rattle.std.specs.Prelude.{◌==◌, Bool, true, false, ◌&&◌, ◌++◌, codes}
use Rattle.std.specs.Str.{bytes_eq}
use Rattle.dbc_values.specs.Names.{IsName, IsText}
use Rattle.dbc_records.specs.Layout.{Layout}
use Rattle.dbc_records.specs.CanonicalText.{word_layout, spaced_name, spaced_text, target_layout, object_layout, signal_key}
use Rattle.dbc_records.specs.Records.{TableRow, ValueRow, FloatRow, MuxRow, IsNumber}
use Rattle.dbc_records.specs.Comments.{Comment, IsTarget}
use Rattle.dbc_records.specs.Attributes.{AttrDef, AttrDefault, AttrRow}
use Rattle.dbc_records.specs.declared.target.Target.{Target}
use Rattle.dbc_records.specs.declared.target.Target.TheVariants as targets
use Rattle.dbc_records.specs.declared.entry_key.EntryKey.{EntryKey}
use Rattle.dbc_records.specs.declared.entry_key.EntryKey.TheVariants as keys
use Rattle.dbc_records.specs.declared.entry_key.TargetRef.{TargetRef}
use Rattle.dbc_records.specs.declared.entry_key.TargetRef.TheVariants as target_refs
use Rattle.dbc_records.specs.declared.entry_key.EntryKeyRef.{EntryKeyRef}
use Rattle.dbc_records.specs.declared.entry_key.EntryKeyRef.TheVariants as key_refs

abbrev pub IsEntryKey : EntryKey → Type 0
IsEntryKey (keys.Table name) = IsName name
IsEntryKey (keys.Comment target) = IsTarget target
IsEntryKey (keys.Definition object name) = IsText name
IsEntryKey (keys.Default name) = IsText name
IsEntryKey (keys.Attribute name target) = IsText name × IsTarget target
IsEntryKey (keys.Values number signal) = IsNumber number × IsName signal
IsEntryKey (keys.Float number signal) = IsNumber number × IsName signal
IsEntryKey (keys.Mux number signal) = IsNumber number × IsName signal

-- ---- the keys of entries

abbrev pub key_of_table : TableRow → EntryKey
key_of_table row = keys.Table row.name

abbrev pub key_of_comment : Comment → EntryKey
key_of_comment row = keys.Comment row.target

abbrev pub key_of_definition : AttrDef → EntryKey
key_of_definition row = keys.Definition row.object row.name

abbrev pub key_of_default : AttrDefault → EntryKey
key_of_default row = keys.Default row.name

abbrev pub key_of_attribute : AttrRow → EntryKey
key_of_attribute row = keys.Attribute row.name row.target

abbrev pub key_of_values : ValueRow → EntryKey
key_of_values row = keys.Values row.number row.signal

abbrev pub key_of_float : FloatRow → EntryKey
key_of_float row = keys.Float row.number row.signal

abbrev pub key_of_mux : MuxRow → EntryKey
key_of_mux row = keys.Mux row.number row.signal

-- ---- keys whose names are borrowed

abbrev pub target_of : TargetRef → Target
target_of target_refs.Whole = targets.Whole
target_of (target_refs.Node name) = targets.Node name.now
target_of (target_refs.Message number) = targets.Message number
target_of (target_refs.Signal number name) = targets.Signal number name.now

abbrev pub entry_key : EntryKeyRef → EntryKey
entry_key (key_refs.Table name) = keys.Table name.now
entry_key (key_refs.Comment target) = keys.Comment (target_of target)
entry_key (key_refs.Definition object name) = keys.Definition object name.now
entry_key (key_refs.Default name) = keys.Default name.now
entry_key (key_refs.Attribute name target) = keys.Attribute name.now (target_of target)
entry_key (key_refs.Values number signal) = keys.Values number signal.now
entry_key (key_refs.Float number signal) = keys.Float number signal.now
entry_key (key_refs.Mux number signal) = keys.Mux number signal.now

-- ---- what entries are about

-- value tables, definitions and defaults are about the whole database
abbrev pub key_target : EntryKey → Target
key_target (keys.Table name) = targets.Whole
key_target (keys.Comment target) = target
key_target (keys.Definition object name) = targets.Whole
key_target (keys.Default name) = targets.Whole
key_target (keys.Attribute name target) = target
key_target (keys.Values number signal) = targets.Signal number signal
key_target (keys.Float number signal) = targets.Signal number signal
key_target (keys.Mux number signal) = targets.Signal number signal

-- ---- equal keys

abbrev pub same_target : Target → Target → Bool
same_target targets.Whole targets.Whole = true
same_target (targets.Node a) (targets.Node b) = bytes_eq a b
same_target (targets.Message m) (targets.Message n) = m == n
same_target (targets.Signal m a) (targets.Signal n b) = (m == n) && bytes_eq a b
same_target first second = false

-- Whether two entries are of one kind and have the same key. An attribute is defined once, so the kind of object is no part of the
-- key of its definition.
abbrev pub same_key : EntryKey → EntryKey → Bool
same_key (keys.Table a) (keys.Table b) = bytes_eq a b
same_key (keys.Comment s) (keys.Comment t) = same_target s t
same_key (keys.Definition object a) (keys.Definition other b) = bytes_eq a b
same_key (keys.Default a) (keys.Default b) = bytes_eq a b
same_key (keys.Attribute a s) (keys.Attribute b t) = bytes_eq a b && same_target s t
same_key (keys.Values m a) (keys.Values n b) = (m == n) && bytes_eq a b
same_key (keys.Float m a) (keys.Float n b) = (m == n) && bytes_eq a b
same_key (keys.Mux m a) (keys.Mux n b) = (m == n) && bytes_eq a b
same_key first second = false

-- ---- what is printed of an entry up to and including its key

unfoldable pub key_layout : EntryKey → Layout
key_layout (keys.Table name) = word_layout (codes "VAL_TABLE_") ++ spaced_name name
key_layout (keys.Comment target) = word_layout (codes "CM_") ++ target_layout target
key_layout (keys.Definition object name) = word_layout (codes "BA_DEF_") ++ (object_layout object ++ spaced_text name)
key_layout (keys.Default name) = word_layout (codes "BA_DEF_DEF_") ++ spaced_text name
key_layout (keys.Attribute name target) = word_layout (codes "BA_") ++ (spaced_text name ++ target_layout target)
key_layout (keys.Values number signal) = word_layout (codes "VAL_") ++ signal_key number signal
key_layout (keys.Float number signal) = word_layout (codes "SIG_VALTYPE_") ++ signal_key number signal
key_layout (keys.Mux number signal) = word_layout (codes "SG_MUL_VAL_") ++ signal_key number signal
