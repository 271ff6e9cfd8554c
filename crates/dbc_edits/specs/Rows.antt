-- The entries of a database that belong to a message or a signal: its comments, attributes, value descriptions, float types and
-- `SG_MUL_VAL_` entries. Each is seen by its target: what it is about, as it is written.
use Rattle.std.specs.Prelude.{ℕ, Bool, false, not, ◌&&◌, ◌||◌, ◌==◌, List, [], ◌∷◌, filter, map, if◌then◌else◌}
use Rattle.std.specs.List.{list_any}
use Rattle.std.specs.Str.{bytes_eq}
use Rattle.dbc_records.specs.Records.{ValueRow, FloatRow, MuxRow, TableRow}
use Rattle.dbc_records.specs.Comments.{Comment, is_for_message}
use Rattle.dbc_records.specs.Attributes.{AttrRow}
use Rattle.dbc_records.specs.Databases.{Database}
use Rattle.dbc_records.specs.declared.target.Target.{Target}
use Rattle.dbc_records.specs.declared.target.Target.TheVariants as targets

-- ---- lists of entries

-- the list without the items that pass
abbrev pub without : {X : Type 0} → (X → Bool) → List X → List X
without test items = filter (λ item. not (test item)) items

-- the item replaces the first that passes, and the others that pass are removed; if none passes, it comes last
abbrev pub with_item : {X : Type 0} → (X → Bool) → X → List X → List X
with_item test item [] = item ∷ []
with_item test item (first ∷ rest) = if test first then item ∷ without test rest else first ∷ with_item test item rest

-- ---- targets

-- the target is the message of the CAN identifier, or one of its signals
abbrev pub is_of_number : ℕ → Target → Bool
is_of_number number targets.Whole = false
is_of_number number (targets.Node name) = false
is_of_number number (targets.Message other) = other == number
is_of_number number (targets.Signal other name) = other == number

-- the target is the signal of the CAN identifier and name
abbrev pub is_of_signal : ℕ → List ℕ → Target → Bool
is_of_signal number name targets.Whole = false
is_of_signal number name (targets.Node other) = false
is_of_signal number name (targets.Message other) = false
is_of_signal number name (targets.Signal other signal) = other == number && bytes_eq signal name

-- the entries that have no target written as such are about a signal
abbrev pub values_target : ValueRow → Target
values_target row = targets.Signal row.number row.signal

abbrev pub float_target : FloatRow → Target
float_target row = targets.Signal row.number row.signal

abbrev pub mux_target : MuxRow → Target
mux_target row = targets.Signal row.number row.signal

-- ---- the entries of a database

-- the database without the entries whose targets pass
unfoldable pub without_rows : (Target → Bool) → Database → Database
without_rows test database = record database {
  comments = without (λ row. test row.target) database.comments;
  attributes = without (λ row. test row.target) database.attributes;
  values = without (λ row. test (values_target row)) database.values;
  floats = without (λ row. test (float_target row)) database.floats;
  muxes = without (λ row. test (mux_target row)) database.muxes;
}

-- one of its entries has a target that passes
unfoldable pub has_row : (Target → Bool) → Database → Bool
has_row test database =
    list_any (λ row. test row.target) database.comments
    || list_any (λ row. test row.target) database.attributes
    || list_any (λ row. test (values_target row)) database.values
    || list_any (λ row. test (float_target row)) database.floats
    || list_any (λ row. test (mux_target row)) database.muxes

-- ---- a new CAN identifier instead of an old one

abbrev pub renumbered : ℕ → ℕ → ℕ → ℕ
renumbered old new number = if number == old then new else number

abbrev pub target_renumbered : ℕ → ℕ → Target → Target
target_renumbered old new targets.Whole = targets.Whole
target_renumbered old new (targets.Node name) = targets.Node name
target_renumbered old new (targets.Message number) = targets.Message (renumbered old new number)
target_renumbered old new (targets.Signal number name) = targets.Signal (renumbered old new number) name

abbrev pub comment_renumbered : ℕ → ℕ → Comment → Comment
comment_renumbered old new row = record row { target = target_renumbered old new row.target }

abbrev pub attribute_renumbered : ℕ → ℕ → AttrRow → AttrRow
attribute_renumbered old new row = record row { target = target_renumbered old new row.target }

abbrev pub values_renumbered : ℕ → ℕ → ValueRow → ValueRow
values_renumbered old new row = record row { number = renumbered old new row.number }

abbrev pub float_renumbered : ℕ → ℕ → FloatRow → FloatRow
float_renumbered old new row = record row { number = renumbered old new row.number }

abbrev pub mux_renumbered : ℕ → ℕ → MuxRow → MuxRow
mux_renumbered old new row = record row { number = renumbered old new row.number }

-- all entries of the old CAN identifier have the new one
unfoldable pub rows_renumbered : ℕ → ℕ → Database → Database
rows_renumbered old new database = record database {
  comments = map (comment_renumbered old new) database.comments;
  attributes = map (attribute_renumbered old new) database.attributes;
  values = map (values_renumbered old new) database.values;
  floats = map (float_renumbered old new) database.floats;
  muxes = map (mux_renumbered old new) database.muxes;
}

-- ---- a new name instead of an old one

-- signals of the CAN identifier take the new name instead of the old one
pub record Renaming : Type 0 where
  pub number : ℕ
  pub old : List ℕ
  pub new : List ℕ

-- the name of a signal of a CAN identifier
abbrev pub name_after : Renaming → ℕ → List ℕ → List ℕ
name_after renaming number name = if number == renaming.number && bytes_eq name renaming.old then renaming.new else name

abbrev pub target_renamed : Renaming → Target → Target
target_renamed renaming targets.Whole = targets.Whole
target_renamed renaming (targets.Node name) = targets.Node name
target_renamed renaming (targets.Message number) = targets.Message number
target_renamed renaming (targets.Signal number name) = targets.Signal number (name_after renaming number name)

abbrev pub comment_renamed : Renaming → Comment → Comment
comment_renamed renaming row = record row { target = target_renamed renaming row.target }

abbrev pub attribute_renamed : Renaming → AttrRow → AttrRow
attribute_renamed renaming row = record row { target = target_renamed renaming row.target }

abbrev pub values_renamed : Renaming → ValueRow → ValueRow
values_renamed renaming row = record row { signal = name_after renaming row.number row.signal }

abbrev pub float_renamed : Renaming → FloatRow → FloatRow
float_renamed renaming row = record row { signal = name_after renaming row.number row.signal }

-- an entry names its multiplexor too
abbrev pub mux_renamed : Renaming → MuxRow → MuxRow
mux_renamed renaming row =
    record row { signal = name_after renaming row.number row.signal; switch = name_after renaming row.number row.switch }

-- all entries of the CAN identifier that name the old signal name the new one; statements kept verbatim stay
unfoldable pub rows_renamed : Renaming → Database → Database
rows_renamed renaming database = record database {
  comments = map (comment_renamed renaming) database.comments;
  attributes = map (attribute_renamed renaming) database.attributes;
  values = map (values_renamed renaming) database.values;
  floats = map (float_renamed renaming) database.floats;
  muxes = map (mux_renamed renaming) database.muxes;
}

-- an entry of the CAN identifier names the signal as its multiplexor (switch)
abbrev pub is_switched_by : ℕ → List ℕ → MuxRow → Bool
is_switched_by number name row = row.number == number && bytes_eq row.switch name

-- an entry of the CAN identifier names the signal, as what it is about or as its multiplexor
unfoldable pub has_row_naming : ℕ → List ℕ → Database → Bool
has_row_naming number name database =
    has_row (is_of_signal number name) database || list_any (is_switched_by number name) database.muxes

-- ---- the keys by which entries are set and dropped

abbrev pub is_values_of : ℕ → List ℕ → ValueRow → Bool
is_values_of number signal row = is_of_signal number signal (values_target row)

abbrev pub is_mux_of : ℕ → List ℕ → MuxRow → Bool
is_mux_of number signal row = is_of_signal number signal (mux_target row)

abbrev pub is_table_of : List ℕ → TableRow → Bool
is_table_of name row = bytes_eq row.name name

-- an attribute of a message: those of nodes and signals have other keys
abbrev pub is_attribute_of : List ℕ → ℕ → AttrRow → Bool
is_attribute_of name number row = is_for_message number row.target && bytes_eq row.name name
