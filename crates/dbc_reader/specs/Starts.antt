-- Where the statements of a text and the signals of its messages begin.
use Rattle.std.specs.Prelude.{◌≡◌, ℕ, List, [], ◌∷◌, ◌++◌, map, length, nat_lt, if◌then◌else◌}
use Rattle.std.specs.List.{flat_map}
use Rattle.dbc_records.specs.CanonicalText.{head_layout}
use Rattle.dbc_records.specs.Databases.{Database}
use Rattle.dbc_records.specs.declared.database_entry.EntryKind.{EntryKind}
use Rattle.dbc_records.specs.declared.database_entry.EntryKind.TheVariants as entry_kinds
use Rattle.dbc_tokens.specs.Tokens.{Token, Cut, End, Fault, ◌▸◌}
use Rattle.dbc_reader.specs.declared.start.Start.{Start}
use Rattle.dbc_reader.specs.declared.start.Starts.{Starts}
use Rattle.dbc_reader.specs.Forms.{Part, Spelled, of_layout}
use Rattle.dbc_reader.specs.Kinds.{Kind, list_of, Tables, Messages, Comments, Definitions, Defaults, Attributes}
use Rattle.dbc_reader.specs.Kinds.{ValueDescriptions, FloatTypes, Multiplexings, KeptVerbatim}
use Rattle.dbc_reader.specs.Spelling.{AnyStatement, OfMessage, form, signal_form, records_of}

-- ---- one start

-- where a token begins
abbrev pub start_of : Token → Start
start_of t = record { line = t.line; left = t.left }

-- where the first of these tokens begins; the last line, with nothing left, if there is none
unfoldable pub start_at : Cut → Start
start_at (End line) = record { line = line; left = 0 }
start_at (Fault line) = record { line = line; left = 0 }
start_at (t ▸ cut) = start_of t

-- The tokens are those of these items, one after another, each spelled by its form; and each item begins where
-- its first token does.
abbrev pub BeginAt : {A : Type 0} → (A → List Part) → List A → List Token → List Start → Type 0
BeginAt form [] tokens starts = (tokens ≡ []) × (starts ≡ [])
BeginAt form (item ∷ items) tokens starts =
    (first : Token) × (others rest : List Token) × (more : List Start) × (tokens ≡ (first ∷ others) ++ rest)
    × Spelled (form item) (first ∷ others) × (starts ≡ start_of first ∷ more) × BeginAt form items rest more

-- ---- statements

-- a statement, where it begins, and where the signals of a message begin
pub record Located : Type 0 where
  pub statement : AnyStatement
  pub start : Start
  pub signals : List Start

-- the signals of a message begin there, after its head; no other statement has signals
abbrev pub SignalsBeginAt : AnyStatement → List Token → List Start → Type 0
SignalsBeginAt (OfMessage message) tokens starts =
    (head signals : List Token) × (tokens ≡ head ++ signals) × Spelled (of_layout (head_layout message.head)) head
    × BeginAt signal_form message.signals signals starts
SignalsBeginAt statement tokens starts = starts ≡ []

-- The tokens are those of these statements, one after another, each spelled by its form; and each begins where
-- its first token does.
abbrev pub AreLocated : List Located → List Token → Type 0
AreLocated [] tokens = tokens ≡ []
AreLocated (located ∷ others) tokens =
    (first : Token) × (further rest : List Token) × (tokens ≡ (first ∷ further) ++ rest)
    × Spelled (form located.statement) (first ∷ further) × (located.start ≡ start_of first)
    × SignalsBeginAt located.statement (first ∷ further) located.signals × AreLocated others rest

-- ---- lists of starts, one for each list of a database

abbrev pub no_starts : Starts
no_starts = record {
  tables = [];
  messages = [];
  signals = [];
  comments = [];
  definitions = [];
  defaults = [];
  attributes = [];
  values = [];
  floats = [];
  muxes = [];
  kept = [];
}

abbrev pub starts_of : Kind → Starts → List Start
starts_of Tables starts = starts.tables
starts_of Messages starts = starts.messages
starts_of Comments starts = starts.comments
starts_of Definitions starts = starts.definitions
starts_of Defaults starts = starts.defaults
starts_of Attributes starts = starts.attributes
starts_of ValueDescriptions starts = starts.values
starts_of FloatTypes starts = starts.floats
starts_of Multiplexings starts = starts.muxes
starts_of KeptVerbatim starts = starts.kept

-- where the entries of a kind begin
abbrev pub entry_starts : Starts → EntryKind → List Start
entry_starts starts entry_kinds.Table = starts.tables
entry_starts starts entry_kinds.Comment = starts.comments
entry_starts starts entry_kinds.Definition = starts.definitions
entry_starts starts entry_kinds.Default = starts.defaults
entry_starts starts entry_kinds.Attribute = starts.attributes
entry_starts starts entry_kinds.Values = starts.values
entry_starts starts entry_kinds.Float = starts.floats
entry_starts starts entry_kinds.Mux = starts.muxes

abbrev pub with_starts : Starts → (Kind → List Start) → Starts
with_starts starts lists = record starts {
  tables = lists Tables;
  messages = lists Messages;
  comments = lists Comments;
  definitions = lists Definitions;
  defaults = lists Defaults;
  attributes = lists Attributes;
  values = lists ValueDescriptions;
  floats = lists FloatTypes;
  muxes = lists Multiplexings;
  kept = lists KeptVerbatim;
}

-- the start of a statement of this kind
abbrev pub starts_in : Kind → Located → List Start
starts_in kind located = map (λ _. located.start) (records_of kind located.statement)

-- the starts of the statements of each kind, in order, and of all signals
abbrev pub gather_starts : List Located → Starts
gather_starts located = with_starts (record no_starts { signals = flat_map (λ it. it.signals) located })
    (λ kind. flat_map (starts_in kind) located)

-- as many starts as there are records of each kind, and signals
pub record HaveStarts (database : Database) (starts : Starts) : Type 0 where
  pub records : (kind : Kind) → length (starts_of kind starts) ≡ length (list_of kind database)
  pub signals : length starts.signals ≡ length (flat_map (λ message. message.signals) database.messages)

-- ---- lists that grow with those of a database

-- one start more if there are fewer
unfoldable pub extended : List Start → ℕ → Start → List Start
extended starts count start = if nat_lt (length starts) count then starts ++ start ∷ [] else starts

-- each list that is shorter than the database's has one start more
abbrev pub caught_up : Starts → Database → Start → Starts
caught_up starts database start = with_starts starts (λ kind. extended (starts_of kind starts) (length (list_of kind database))
    start)
