-- Reading of whole texts: a database, or one statement.
-- Source: the DBC file format, "Structure of the DBC File", "Version and New Symbol Specification", "Bit Timing
-- Definition" and "Node Definitions". That statements come in any order is the profile of candesk.
use Rattle.std.specs.Prelude.{ℕ, zero, suc, Bool, false, ◌||◌, List, [], ◌∷◌, ◌++◌, length, codes, Option, Some, None}
use Rattle.std.specs.List.{list_any}
use Rattle.std.specs.Str.{bytes_eq}
use Rattle.dbc_values.specs.Lexical.{comma, colon, semicolon}
use Rattle.dbc_values.specs.Decimals.{Decimal}
use Rattle.dbc_records.specs.Attributes.{AttrRow}
use Rattle.dbc_records.specs.Kept.{Kept, kept_fits}
use Rattle.dbc_records.specs.Databases.{Database}
use Rattle.dbc_reader.specs.declared.statement.Statement.{Statement}
use Rattle.dbc_reader.specs.declared.statement.Statement.TheVariants as statements
use Rattle.dbc_tokens.specs.Tokens.{Token, Cut, End, Fault, ◌▸◌}
pub use Rattle.dbc_reader.specs.Kinds.{empty_database}
use Rattle.dbc_reader.specs.Kinds.{Kind, RecordOf, list_of, with_list, Tables, Messages, Comments, Definitions, Defaults}
use Rattle.dbc_reader.specs.Kinds.{Attributes, ValueDescriptions, FloatTypes, Multiplexings, KeptVerbatim}
use Rattle.dbc_reader.specs.Classes.{has_word, has_number, has_kept_word}
use Rattle.dbc_reader.specs.inner.Readers.{Reader, ◌>>=◌, value, choose, choose_by, repeated, end_at}
use Rattle.dbc_reader.specs.inner.Parts.{word_at, mark_at, text_at, number_at, names_from, symbols_from, pieces_from}
use Rattle.dbc_reader.specs.inner.Messages.{head_at, signal_at, message_at}
use Rattle.dbc_reader.specs.inner.Tables.{table_at, values_at, float_at, mux_at}
use Rattle.dbc_reader.specs.inner.Attributes.{message_target_at, comment_at, definition_at, value_at, default_at, attribute_at}

-- ---- lists of words

-- `NS_ :` and its words, which run on up to `BS_`, `BU_` or `BO_`
unfoldable pub symbols_into : Database → Reader Database
symbols_into d = do
  _ ← word_at (codes "NS_")
  _ ← mark_at colon
  symbols ← symbols_from d.symbols
  value (record d { symbols = symbols })

-- `BU_ :` and its names
unfoldable pub nodes_into : Database → Reader Database
nodes_into d = do
  _ ← word_at (codes "BU_")
  _ ← mark_at colon
  nodes ← names_from d.nodes
  value (record d { nodes = nodes })

-- ---- statements kept verbatim

-- the bytes of the first tokens, at most this many
abbrev pub first_tokens : ℕ → Cut → List (List ℕ)
first_tokens zero cut = []
first_tokens (suc n) (End line) = []
first_tokens (suc n) (Fault line) = []
first_tokens (suc n) (t ▸ cut) = t.bytes ∷ first_tokens n cut

-- the first three tokens determine whether a statement is kept
unfoldable pub begins_kept : Cut → Bool
begins_kept cut = kept_fits (first_tokens 3 cut)

-- all tokens up to the semicolon
unfoldable pub kept_at : Reader Kept
kept_at = do
  tokens ← pieces_from []
  _ ← mark_at semicolon
  value (record { tokens = tokens })

-- ---- a database and one statement more

-- an entry of each kind; a message is bounded by those that are already there
abbrev pub record_at : (kind : Kind) → Database → Reader (RecordOf kind)
record_at Tables d = table_at
record_at Messages d = message_at (length d.messages)
record_at Comments d = comment_at
record_at Definitions d = definition_at
record_at Defaults d = default_at
record_at Attributes d = attribute_at
record_at ValueDescriptions d = values_at
record_at FloatTypes d = float_at
record_at Multiplexings d = mux_at
record_at KeptVerbatim d = kept_at

-- an entry is put after those of its kind
unfoldable pub record_into : Kind → Database → Reader Database
record_into kind d = do
  row ← record_at kind d
  value (with_list kind d (list_of kind d ++ row ∷ []))

-- the statements of the objects of the bus: nodes, messages and symbols
unfoldable pub object_into : Database → Reader Database
object_into d =
    choose (has_word (codes "NS_")) (symbols_into d)
    (choose (has_word (codes "BU_")) (nodes_into d) (record_into Messages d))

-- an entry about values
unfoldable pub value_row_into : Database → Reader Database
value_row_into d =
    choose (has_word (codes "VAL_TABLE_")) (record_into Tables d)
    (choose (has_word (codes "VAL_")) (record_into ValueDescriptions d)
    (choose (has_word (codes "SIG_VALTYPE_")) (record_into FloatTypes d) (record_into Multiplexings d)))

-- a comment or an entry of attributes
unfoldable pub attribute_row_into : Database → Reader Database
attribute_row_into d =
    choose (has_word (codes "CM_")) (record_into Comments d)
    (choose (has_word (codes "BA_DEF_")) (record_into Definitions d)
    (choose (has_word (codes "BA_DEF_DEF_")) (record_into Defaults d) (record_into Attributes d)))

abbrev pub object_words : List (List ℕ)
object_words = codes "NS_" ∷ codes "BU_" ∷ codes "BO_" ∷ []

abbrev pub value_words : List (List ℕ)
value_words = codes "VAL_TABLE_" ∷ codes "VAL_" ∷ codes "SIG_VALTYPE_" ∷ codes "SG_MUL_VAL_" ∷ []

abbrev pub attribute_words : List (List ℕ)
attribute_words = codes "CM_" ∷ codes "BA_DEF_" ∷ codes "BA_DEF_DEF_" ∷ codes "BA_" ∷ []

unfoldable pub has_object_word : Token → Bool
has_object_word t = list_any (bytes_eq t.bytes) object_words

unfoldable pub has_value_word : Token → Bool
has_value_word t = list_any (bytes_eq t.bytes) value_words

unfoldable pub has_attribute_word : Token → Bool
has_attribute_word t = list_any (bytes_eq t.bytes) attribute_words

-- what a statement begins with, except the bit timing and for signals
unfoldable pub begins_statement : Token → Bool
begins_statement t = has_object_word t || (has_value_word t || (has_attribute_word t || has_kept_word t))

-- a statement of any kind that may be repeated
unfoldable pub statement_into : Database → Reader Database
statement_into d =
    choose_by begins_kept (record_into KeptVerbatim d)
    (choose has_object_word (object_into d)
    (choose has_value_word (value_row_into d) (attribute_row_into d)))

-- such statements, as many as there are
unfoldable pub statements_into : Database → Reader Database
statements_into = repeated begins_statement statement_into

-- ---- texts

-- `VERSION "text"`, or nothing
unfoldable pub version_at : Reader (List ℕ)
version_at = choose (has_word (codes "VERSION")) (do
  _ ← word_at (codes "VERSION")
  text_at) (value [])

-- `rate : register , register`
unfoldable pub timing_numbers_at : Reader (Option (List Decimal))
timing_numbers_at = do
  rate ← number_at false
  _ ← mark_at colon
  first ← number_at false
  _ ← mark_at comma
  second ← number_at false
  value (Some (rate ∷ first ∷ second ∷ []))

-- `BS_ :`, perhaps with numbers
unfoldable pub timing_at : Reader (Option (List Decimal))
timing_at = do
  _ ← word_at (codes "BS_")
  _ ← mark_at colon
  choose (has_number false) timing_numbers_at (value None)

-- the bit timing and what is after it, or nothing: no second one may follow
unfoldable pub timed_into : Database → Reader Database
timed_into d = choose (has_word (codes "BS_")) (do
  timing ← timing_at
  statements_into (record d { bit_timing = timing })) (value d)

-- a whole text
unfoldable pub database_at : Reader Database
database_at = do
  version ← version_at
  before ← statements_into (empty_database version)
  all ← timed_into before
  _ ← end_at
  value all

-- ---- one statement

-- `BA_ "name" BO_ number value ;`
unfoldable pub message_attribute_at : Reader AttrRow
message_attribute_at = do
  _ ← word_at (codes "BA_")
  name ← text_at
  target ← message_target_at
  given ← value_at
  _ ← mark_at semicolon
  value (record { name = name; target = target; value = given })

abbrev pub head_alone_at : Reader Statement
head_alone_at = do
  head ← head_at 0
  value (statements.Head head)

abbrev pub signal_alone_at : Reader Statement
signal_alone_at = do
  signal ← signal_at []
  value (statements.Signal signal)

abbrev pub table_alone_at : Reader Statement
table_alone_at = do
  row ← table_at
  value (statements.Table row)

abbrev pub values_alone_at : Reader Statement
values_alone_at = do
  row ← values_at
  value (statements.Values row)

abbrev pub mux_alone_at : Reader Statement
mux_alone_at = do
  row ← mux_at
  value (statements.Mux row)

abbrev pub attribute_alone_at : Reader Statement
attribute_alone_at = do
  row ← message_attribute_at
  value (statements.Attribute row)

-- the statements that an edit may name
unfoldable pub standalone_statement_at : Reader Statement
standalone_statement_at =
    choose (has_word (codes "BO_")) head_alone_at
    (choose (has_word (codes "SG_")) signal_alone_at
    (choose (has_word (codes "VAL_TABLE_")) table_alone_at
    (choose (has_word (codes "VAL_")) values_alone_at
    (choose (has_word (codes "SG_MUL_VAL_")) mux_alone_at attribute_alone_at))))

-- a text that is one statement
unfoldable pub statement_at : Reader Statement
statement_at = do
  statement ← standalone_statement_at
  _ ← end_at
  value statement
