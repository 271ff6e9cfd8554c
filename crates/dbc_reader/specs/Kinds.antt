-- The kinds of entry, in the order in which they are printed, and the list that a database has of each.
use Rattle.std.specs.Prelude.{ℕ, List, [], ◌∷◌, None}
use Rattle.dbc_records.specs.Records.{Message, TableRow, ValueRow, FloatRow, MuxRow}
use Rattle.dbc_records.specs.Comments.{Comment}
use Rattle.dbc_records.specs.Attributes.{AttrDef, AttrDefault, AttrRow}
use Rattle.dbc_records.specs.Kept.{Kept}
use Rattle.dbc_records.specs.Databases.{Database}

pub data Kind : Type 0 where
  Tables : Kind
  Messages : Kind
  Comments : Kind
  Definitions : Kind
  Defaults : Kind
  Attributes : Kind
  ValueDescriptions : Kind
  FloatTypes : Kind
  Multiplexings : Kind
  KeptVerbatim : Kind

abbrev pub all_kinds : List Kind
all_kinds =
    Tables ∷ Messages ∷ Comments ∷ Definitions ∷ Defaults ∷ Attributes ∷ ValueDescriptions ∷ FloatTypes ∷ Multiplexings ∷
    KeptVerbatim ∷ []

abbrev pub RecordOf : Kind → Type 0
RecordOf Tables = TableRow
RecordOf Messages = Message
RecordOf Comments = Comment
RecordOf Definitions = AttrDef
RecordOf Defaults = AttrDefault
RecordOf Attributes = AttrRow
RecordOf ValueDescriptions = ValueRow
RecordOf FloatTypes = FloatRow
RecordOf Multiplexings = MuxRow
RecordOf KeptVerbatim = Kept

abbrev pub list_of : (kind : Kind) → Database → List (RecordOf kind)
list_of Tables d = d.tables
list_of Messages d = d.messages
list_of Comments d = d.comments
list_of Definitions d = d.definitions
list_of Defaults d = d.defaults
list_of Attributes d = d.attributes
list_of ValueDescriptions d = d.values
list_of FloatTypes d = d.floats
list_of Multiplexings d = d.muxes
list_of KeptVerbatim d = d.kept

-- the database with this list of the kind
abbrev pub with_list : (kind : Kind) → Database → List (RecordOf kind) → Database
with_list Tables d rows = record d { tables = rows }
with_list Messages d rows = record d { messages = rows }
with_list Comments d rows = record d { comments = rows }
with_list Definitions d rows = record d { definitions = rows }
with_list Defaults d rows = record d { defaults = rows }
with_list Attributes d rows = record d { attributes = rows }
with_list ValueDescriptions d rows = record d { values = rows }
with_list FloatTypes d rows = record d { floats = rows }
with_list Multiplexings d rows = record d { muxes = rows }
with_list KeptVerbatim d rows = record d { kept = rows }

-- the database with these lists of all kinds
abbrev pub with_lists : Database → ((kind : Kind) → List (RecordOf kind)) → Database
with_lists d lists = record d {
  tables = lists Tables;
  messages = lists Messages;
  comments = lists Comments;
  definitions = lists Definitions;
  defaults = lists Defaults;
  attributes = lists Attributes;
  values = lists ValueDescriptions;
  floats = lists FloatTypes;
  muxes = lists Multiplexings;
  kept = lists KeptVerbatim;
}

abbrev pub empty_database : List ℕ → Database
empty_database version = record {
  version = version;
  symbols = [];
  bit_timing = None;
  nodes = [];
  tables = [];
  messages = [];
  comments = [];
  definitions = [];
  defaults = [];
  attributes = [];
  values = [];
  floats = [];
  muxes = [];
  kept = [];
}
