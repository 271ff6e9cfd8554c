-- Which tokens spell a database: statements, one after another, each of the form that its kind has, and the database
-- has their values, kind by kind, in order.
-- Source: the DBC file format, "Structure of the DBC File" and the section of each statement. That statements come in
-- any order, and what may be left out, is the profile of candesk.
use Rattle.std.specs.Prelude.{◌≡◌, ◌≤◌, ℕ, List, [], ◌∷◌, ◌++◌, length, Option, Some, None}
use Rattle.std.specs.List.{flat_map}
use Rattle.dbc_values.specs.Lexical.{comma, colon, semicolon}
use Rattle.dbc_values.specs.Decimals.{Decimal}
use Rattle.dbc_records.specs.Records.{IsHead, IsSignal, IsTableRow, IsValueRow, IsMuxRow, Signal, Message, TableRow, ValueRow}
use Rattle.dbc_records.specs.Records.{FloatRow, MuxRow}
use Rattle.dbc_records.specs.Comments.{Comment}
use Rattle.dbc_records.specs.Attributes.{AttrDef, AttrDefault, AttrRow, IsAttrRow}
use Rattle.dbc_records.specs.declared.target.Target.TheVariants as targets
use Rattle.dbc_records.specs.Kept.{Kept}
use Rattle.dbc_records.specs.Databases.{Database, IsDatabase}
use Rattle.dbc_records.specs.Layout.{Mark, Name, Whole}
use Rattle.dbc_records.specs.CanonicalText.{version_layout, symbols_layout, timing_title, nodes_layout, table_layout, head_layout}
use Rattle.dbc_records.specs.CanonicalText.{signal_name_layout, tag_layout, bit_field_layout, scale_layout, limits_layout}
use Rattle.dbc_records.specs.CanonicalText.{spaced_text}
use Rattle.dbc_records.specs.CanonicalText.{comment_layout, definition_layout, default_layout, attribute_layout, values_layout}
use Rattle.dbc_records.specs.CanonicalText.{float_key, mux_layout, kept_layout}
use Rattle.dbc_reader.specs.declared.statement.Statement.{Statement}
use Rattle.dbc_reader.specs.declared.statement.Statement.TheVariants as statements
use Rattle.dbc_tokens.specs.Tokens.{Token}
use Rattle.dbc_reader.specs.Kinds.{Kind, RecordOf, with_lists, empty_database, Tables, Messages, Comments, Definitions, Defaults}
use Rattle.dbc_reader.specs.Kinds.{Attributes, ValueDescriptions, FloatTypes, Multiplexings, KeptVerbatim}
use Rattle.dbc_reader.specs.Forms.{Part, Is, Perhaps, Unsigned, Spelled, of_layout}

-- ---- statements

pub data AnyStatement : Type 0 where
  Symbols : List (List ℕ) → AnyStatement
  Timing : Option (Decimal × Decimal × Decimal) → AnyStatement
  Nodes : List (List ℕ) → AnyStatement
  OfKind : (kind : Kind) → RecordOf kind → AnyStatement

pattern abbrev pub Table : TableRow → AnyStatement
Table row = OfKind Tables row

pattern abbrev pub OfMessage : Message → AnyStatement
OfMessage message = OfKind Messages message

pattern abbrev pub OfComment : Comment → AnyStatement
OfComment comment = OfKind Comments comment

pattern abbrev pub Definition : AttrDef → AnyStatement
Definition definition = OfKind Definitions definition

pattern abbrev pub Default : AttrDefault → AnyStatement
Default row = OfKind Defaults row

pattern abbrev pub Attribute : AttrRow → AnyStatement
Attribute row = OfKind Attributes row

pattern abbrev pub Values : ValueRow → AnyStatement
Values row = OfKind ValueDescriptions row

pattern abbrev pub Float : FloatRow → AnyStatement
Float row = OfKind FloatTypes row

pattern abbrev pub Mux : MuxRow → AnyStatement
Mux row = OfKind Multiplexings row

pattern abbrev pub OfKept : Kept → AnyStatement
OfKept statement = OfKind KeptVerbatim statement

-- `BS_ :`, and perhaps three numbers without signs
abbrev pub timing_form : Option (Decimal × Decimal × Decimal) → List Part
timing_form None = of_layout timing_title
timing_form (Some numbers) =
    of_layout timing_title ++ (Unsigned numbers.0 ∷ Is (Mark colon) ∷ Unsigned numbers.1 ∷ Is (Mark comma) ∷ Unsigned numbers.2
    ∷ [])

-- a comma may be before each receiver but the first
abbrev pub receivers_form : List (List ℕ) → List Part
receivers_form [] = []
receivers_form (name ∷ names) = Is (Name name) ∷ flat_map (λ further. Perhaps comma ∷ Is (Name further) ∷ []) names

abbrev pub signal_form : Signal → List Part
signal_form signal =
    of_layout (signal_name_layout signal
    ++ (tag_layout signal.tag
    ++ (bit_field_layout signal ++ (scale_layout signal ++ (limits_layout signal ++ spaced_text signal.unit)))))
    ++ receivers_form signal.receivers

-- the form of each statement: the items of its printed line, except marks that may be missing
abbrev pub form : AnyStatement → List Part
form (Symbols symbols) = of_layout (symbols_layout symbols)
form (Timing numbers) = timing_form numbers
form (Nodes nodes) = of_layout (nodes_layout nodes)
form (Table row) = of_layout (table_layout row)
form (OfMessage message) = of_layout (head_layout message.head) ++ flat_map signal_form message.signals
form (OfComment comment) = of_layout (comment_layout comment)
form (Definition definition) = of_layout (definition_layout definition)
form (Default row) = of_layout (default_layout row)
form (Attribute row) = of_layout (attribute_layout row)
form (Values row) = of_layout (values_layout row)
form (Float row) = of_layout (float_key row) ++ (Perhaps colon ∷ Is (Whole row.kind) ∷ Is (Mark semicolon) ∷ [])
form (Mux row) = of_layout (mux_layout row)
form (OfKept statement) = of_layout (kept_layout statement)

-- ---- the order of statements

-- a list of symbols runs on up to `BS_`, `BU_`, `BO_` or the end of the text
abbrev pub EndsSymbols : List AnyStatement → Type 0
EndsSymbols [] = Unit {0}
EndsSymbols (Timing numbers ∷ statements) = Unit {0}
EndsSymbols (Nodes nodes ∷ statements) = Unit {0}
EndsSymbols (OfMessage message ∷ statements) = Unit {0}
EndsSymbols (statement ∷ statements) = ⊥

abbrev pub FollowOn : AnyStatement → List AnyStatement → Type 0
FollowOn (Symbols symbols) statements = EndsSymbols statements
FollowOn statement statements = Unit {0}

-- each statement may be before those after it
abbrev pub ArePlaced : List AnyStatement → Type 0
ArePlaced [] = Unit {0}
ArePlaced (statement ∷ statements) = FollowOn statement statements × ArePlaced statements

-- ---- databases

abbrev pub symbols_of : AnyStatement → List (List ℕ)
symbols_of (Symbols symbols) = symbols
symbols_of statement = []

abbrev pub timings_of : AnyStatement → List (Option (Decimal × Decimal × Decimal))
timings_of (Timing numbers) = numbers ∷ []
timings_of statement = []

abbrev pub nodes_of : AnyStatement → List (List ℕ)
nodes_of (Nodes nodes) = nodes
nodes_of statement = []

-- the entry, if it is one of this kind
abbrev pub if_kind : (kind other : Kind) → RecordOf other → List (RecordOf kind)
if_kind Tables Tables row = row ∷ []
if_kind Messages Messages row = row ∷ []
if_kind Comments Comments row = row ∷ []
if_kind Definitions Definitions row = row ∷ []
if_kind Defaults Defaults row = row ∷ []
if_kind Attributes Attributes row = row ∷ []
if_kind ValueDescriptions ValueDescriptions row = row ∷ []
if_kind FloatTypes FloatTypes row = row ∷ []
if_kind Multiplexings Multiplexings row = row ∷ []
if_kind KeptVerbatim KeptVerbatim row = row ∷ []
if_kind kind other row = []

abbrev pub records_of : (kind : Kind) → AnyStatement → List (RecordOf kind)
records_of kind (OfKind other row) = if_kind kind other row
records_of kind statement = []

-- the bit timing of at most one statement
abbrev pub timing_of : List (Option (Decimal × Decimal × Decimal)) → Option (List Decimal)
timing_of [] = None
timing_of (None ∷ timings) = None
timing_of (Some numbers ∷ timings) = Some (numbers.0 ∷ numbers.1 ∷ numbers.2 ∷ [])

-- a version that is missing is the empty text
abbrev pub version_form : Option (List ℕ) → List Part
version_form None = []
version_form (Some version) = of_layout (version_layout version)

abbrev pub version_text : Option (List ℕ) → List ℕ
version_text None = []
version_text (Some version) = version

-- the database of a version and statements
abbrev pub gather : Option (List ℕ) → List AnyStatement → Database
gather version statements = with_lists (record (empty_database (version_text version)) {
  symbols = flat_map symbols_of statements;
  bit_timing = timing_of (flat_map timings_of statements);
  nodes = flat_map nodes_of statements;
}) (λ kind. flat_map (records_of kind) statements)

-- The tokens spell the database: perhaps a version, and then statements in an allowed order, at most one of them a bit timing; and
-- the database is within all bounds.
pub record Spells (tokens : List Token) (database : Database) : Type 0 where
  pub version : Option (List ℕ)
  pub statements : List AnyStatement
  pub spelled : Spelled (version_form version ++ flat_map form statements) tokens
  pub placed : ArePlaced statements
  pub one_timing : length (flat_map timings_of statements) ≤ 1
  pub gathered : database ≡ gather version statements
  pub proper : IsDatabase database

-- ---- one statement on its own

-- a message without its signals, a signal, a table, an entry of values or of multiplexing, or an attribute
abbrev pub form_alone : Statement → List Part
form_alone (statements.Head head) = of_layout (head_layout head)
form_alone (statements.Signal signal) = signal_form signal
form_alone (statements.Table row) = form (Table row)
form_alone (statements.Values row) = form (Values row)
form_alone (statements.Mux row) = form (Mux row)
form_alone (statements.Attribute row) = form (Attribute row)

-- the attribute is one of a message
pub record IsMessageAttribute (row : AttrRow) : Type 0 where
  pub number : ℕ
  pub target : row.target ≡ targets.Message number
  pub proper : IsAttrRow row

abbrev pub IsStatement : Statement → Type 0
IsStatement (statements.Head head) = IsHead head
IsStatement (statements.Signal signal) = IsSignal signal
IsStatement (statements.Table row) = IsTableRow row
IsStatement (statements.Values row) = IsValueRow row
IsStatement (statements.Mux row) = IsMuxRow row
IsStatement (statements.Attribute row) = IsMessageAttribute row

pub record SpellsStatement (tokens : List Token) (statement : Statement) : Type 0 where
  pub spelled : Spelled (form_alone statement) tokens
  pub proper : IsStatement statement
