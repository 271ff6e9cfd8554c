-- What is read as a database, or as one statement, is proper.
use Rattle.std.proofs.Common.{◌≡◌, ℕ, ◌<◌, true, false, List, [], ◌∷◌, ◌++◌, All, length, length-append, Option, Some, IfSome, Ok}
use Rattle.std.proofs.Common.{refl, arith}
use Rattle.std.specs.Prelude.{codes, nat_le, IsTrue}
use Rattle.std.proofs.lemmas.Bool.{and_parts, and_from}
use Rattle.std.proofs.lemmas.List.Elements.{All-nil, All-push}
use Rattle.dbc_values.specs.Decimals.{Decimal, IsDecimal}
use Rattle.dbc_values.specs.Lexical.{is_text}
use Rattle.dbc_values.specs.Names.{IsText, IsSymbol, IsName}
use Rattle.dbc_records.specs.Records.{IsTableRow, Message, IsMessage, IsValueRow, IsFloatRow, IsMuxRow}
use Rattle.dbc_records.specs.Comments.{IsComment}
use Rattle.dbc_records.specs.Attributes.{IsAttrDef, IsAttrDefault, IsAttrRow}
use Rattle.dbc_records.specs.Kept.{IsKept}
use Rattle.dbc_records.specs.Databases.{Database, IsBitTiming, IsDatabase, timing_fits, database_fits}
use Rattle.dbc_reader.specs.inner.Databases.{record_into}
use Rattle.dbc_reader.specs.Kinds.{Attributes, Comments, Defaults, Definitions, FloatTypes, KeptVerbatim, Messages, Multiplexings}
use Rattle.dbc_reader.specs.Kinds.{Tables, ValueDescriptions}
use Rattle.dbc_reader.specs.declared.statement.Statement.{Statement}
use Rattle.dbc_tokens.specs.Tokens.{Cut}
use Rattle.dbc_reader.specs.Spelling.{IsStatement}
use Rattle.dbc_reader.specs.inner.Readers.{end_at}
use Rattle.dbc_reader.specs.inner.Parts.{word_at, mark_at}
use Rattle.dbc_reader.specs.inner.Databases.{symbols_into, nodes_into, begins_kept}
use Rattle.dbc_reader.specs.inner.Databases.{object_into, value_row_into, attribute_row_into, statement_into}
use Rattle.dbc_reader.specs.inner.Databases.{statements_into, version_at, timing_numbers_at, timing_at, timed_into}
use Rattle.dbc_reader.specs.inner.Databases.{empty_database, database_at, standalone_statement_at, statement_at}
use Rattle.dbc_reader.proofs.Yields.{Yields, YieldsWhere, yields_then, yields_after, yields_value, yields_choose, yields_choose_by}
use Rattle.dbc_reader.proofs.Yields.{yields_then_where, yields_repeated}
use Rattle.dbc_reader.proofs.Yields.Kinds.{text_proper, unsigned_proper, names_proper, symbols_proper}
use Rattle.dbc_reader.proofs.Yields.Messages.{signal_proper, head_proper, message_proper}
use Rattle.dbc_reader.proofs.Yields.Rows.{table_proper, values_proper, float_proper, mux_proper, comment_proper, definition_proper}
use Rattle.dbc_reader.proofs.Yields.Rows.{default_proper, attribute_proper, message_attribute_proper, kept_proper}

-- ---- one statement more

-- a database by its parts
of_parts : (d : Database) → IsText d.version → All IsSymbol d.symbols → IfSome d.bit_timing IsBitTiming → All IsName d.nodes
    → All IsTableRow d.tables
    → All IsMessage d.messages → All IsComment d.comments → All IsAttrDef d.definitions → All IsAttrDefault d.defaults
    → All IsAttrRow d.attributes
    → All IsValueRow d.values → All IsFloatRow d.floats → All IsMuxRow d.muxes → All IsKept d.kept
    → IsTrue (database_fits d.bit_timing d.messages) → IsDatabase d
of_parts d version symbols bit_timing nodes tables messages comments definitions defaults attributes values floats muxes kept fits =
    record {
      version = version;
      symbols = symbols;
      bit_timing = bit_timing;
      nodes = nodes;
      tables = tables;
      messages = messages;
      comments = comments;
      definitions = definitions;
      defaults = defaults;
      attributes = attributes;
      values = values;
      floats = floats;
      muxes = muxes;
      kept = kept;
      fits = fits;
    }

symbols_keep : (d : Database) → IsDatabase d → Yields (symbols_into d) (λ d. IsDatabase d)
unfolding symbols_into
symbols_keep d is =
    yields_after (word_at (codes "NS_")) λ _. yields_after (mark_at 58) λ _. yields_then (symbols_proper d.symbols is.symbols)
    λ symbols all.
    yields_value (of_parts _ is.version all is.bit_timing is.nodes is.tables is.messages is.comments is.definitions is.defaults
    is.attributes is.values is.floats is.muxes is.kept is.fits)

nodes_keep : (d : Database) → IsDatabase d → Yields (nodes_into d) (λ d. IsDatabase d)
unfolding nodes_into
nodes_keep d is =
    yields_after (word_at (codes "BU_")) λ _. yields_after (mark_at 58) λ _. yields_then (names_proper d.nodes is.nodes) λ nodes
    all.
    yields_value (of_parts _ is.version is.symbols is.bit_timing all is.tables is.messages is.comments is.definitions is.defaults
    is.attributes is.values is.floats is.muxes is.kept is.fits)

one_message_more : (timing : Option (List Decimal)) (messages : List Message) (message : Message) → length messages < 65535
    → IsTrue (database_fits timing messages) → IsTrue (database_fits timing (messages ++ message ∷ []))
one_message_more timing messages message space fits =
    let timed = and_parts (timing_fits timing) (nat_le (length messages) 65535) fits in
    let count : nat_le (length (messages ++ message ∷ [])) 65535 ≡ true = rw (length-append messages (message ∷ []))
    (grind (arith, space)) in
    and_from (timing_fits timing) (nat_le (length (messages ++ message ∷ [])) 65535) timed.0 count

message_keeps : (d : Database) → IsDatabase d → Yields (record_into Messages d) (λ d. IsDatabase d)
unfolding record_into
message_keeps d is =
    yields_then (message_proper (length d.messages)) λ message is_message.
    yields_value (of_parts _ is.version is.symbols is.bit_timing is.nodes is.tables (All-push IsMessage d.messages message
    is.messages is_message.proper) is.comments is.definitions is.defaults is.attributes is.values is.floats is.muxes is.kept
    (one_message_more d.bit_timing d.messages message is_message.space is.fits))

table_keeps : (d : Database) → IsDatabase d → Yields (record_into Tables d) (λ d. IsDatabase d)
unfolding record_into
table_keeps d is =
    yields_then table_proper λ row is_proper.
    yields_value (of_parts _ is.version is.symbols is.bit_timing is.nodes (All-push IsTableRow d.tables row is.tables is_proper)
    is.messages is.comments is.definitions is.defaults is.attributes is.values is.floats is.muxes is.kept is.fits)

values_keep : (d : Database) → IsDatabase d → Yields (record_into ValueDescriptions d) (λ d. IsDatabase d)
unfolding record_into
values_keep d is =
    yields_then values_proper λ row is_proper.
    yields_value (of_parts _ is.version is.symbols is.bit_timing is.nodes is.tables is.messages is.comments is.definitions
    is.defaults is.attributes (All-push IsValueRow d.values row is.values is_proper) is.floats is.muxes is.kept is.fits)

float_keeps : (d : Database) → IsDatabase d → Yields (record_into FloatTypes d) (λ d. IsDatabase d)
unfolding record_into
float_keeps d is =
    yields_then float_proper λ row is_proper.
    yields_value (of_parts _ is.version is.symbols is.bit_timing is.nodes is.tables is.messages is.comments is.definitions
    is.defaults is.attributes is.values (All-push IsFloatRow d.floats row is.floats is_proper) is.muxes is.kept is.fits)

mux_keeps : (d : Database) → IsDatabase d → Yields (record_into Multiplexings d) (λ d. IsDatabase d)
unfolding record_into
mux_keeps d is =
    yields_then mux_proper λ row is_proper.
    yields_value (of_parts _ is.version is.symbols is.bit_timing is.nodes is.tables is.messages is.comments is.definitions
    is.defaults is.attributes is.values is.floats (All-push IsMuxRow d.muxes row is.muxes is_proper) is.kept is.fits)

comment_keeps : (d : Database) → IsDatabase d → Yields (record_into Comments d) (λ d. IsDatabase d)
unfolding record_into
comment_keeps d is =
    yields_then comment_proper λ comment is_proper.
    yields_value (of_parts _ is.version is.symbols is.bit_timing is.nodes is.tables is.messages
    (All-push IsComment d.comments comment is.comments is_proper) is.definitions is.defaults is.attributes is.values is.floats
    is.muxes is.kept is.fits)

definition_keeps : (d : Database) → IsDatabase d → Yields (record_into Definitions d) (λ d. IsDatabase d)
unfolding record_into
definition_keeps d is =
    yields_then definition_proper λ definition is_proper.
    yields_value (of_parts _ is.version is.symbols is.bit_timing is.nodes is.tables is.messages is.comments
    (All-push IsAttrDef d.definitions definition is.definitions is_proper) is.defaults is.attributes is.values is.floats
    is.muxes is.kept is.fits)

default_keeps : (d : Database) → IsDatabase d → Yields (record_into Defaults d) (λ d. IsDatabase d)
unfolding record_into
default_keeps d is =
    yields_then default_proper λ row is_proper.
    yields_value (of_parts _ is.version is.symbols is.bit_timing is.nodes is.tables is.messages is.comments is.definitions
    (All-push IsAttrDefault d.defaults row is.defaults is_proper) is.attributes is.values is.floats is.muxes is.kept is.fits)

attribute_keeps : (d : Database) → IsDatabase d → Yields (record_into Attributes d) (λ d. IsDatabase d)
unfolding record_into
attribute_keeps d is =
    yields_then attribute_proper λ row is_proper.
    yields_value (of_parts _ is.version is.symbols is.bit_timing is.nodes is.tables is.messages is.comments is.definitions
    is.defaults (All-push IsAttrRow d.attributes row is.attributes is_proper) is.values is.floats is.muxes is.kept is.fits)

kept_keeps : (d : Database) → IsDatabase d → YieldsWhere begins_kept (record_into KeptVerbatim d) (λ d. IsDatabase d)
unfolding record_into
kept_keeps d is =
    yields_then_where kept_proper λ row is_proper.
    yields_value (of_parts _ is.version is.symbols is.bit_timing is.nodes is.tables is.messages is.comments is.definitions
    is.defaults is.attributes is.values is.floats is.muxes (All-push IsKept d.kept row is.kept is_proper) is.fits)

statement_keeps : (d : Database) → IsDatabase d → Yields (statement_into d) (λ d. IsDatabase d)
unfolding statement_into object_into value_row_into attribute_row_into
statement_keeps d is =
    yields_choose_by (kept_keeps d is)
    (yields_choose _ (yields_choose _ (symbols_keep d is) (yields_choose _ (nodes_keep d is) (message_keeps d is)))
    (yields_choose _ (yields_choose _ (table_keeps d is) (yields_choose _ (values_keep d is) (yields_choose _ (float_keeps d is)
    (mux_keeps d is))))
    (yields_choose _ (comment_keeps d is) (yields_choose _ (definition_keeps d is) (yields_choose _ (default_keeps d is)
    (attribute_keeps d is))))))

statements_keep : (d : Database) → IsDatabase d → Yields (statements_into d) (λ d. IsDatabase d)
unfolding statements_into
statements_keep = yields_repeated (λ d. IsDatabase d) _ _ statement_keeps

-- ---- texts

version_proper : Yields version_at IsText
unfolding version_at is_text
version_proper = yields_choose _ (yields_after (word_at (codes "VERSION")) λ _. text_proper) (yields_value refl)

-- the bit timing of a database
record IsTiming (timing : Option (List Decimal)) : Type 0 where
  numbers : IfSome timing IsBitTiming
  fits : timing_fits timing ≡ true

not_negative : (a b c : Decimal) → a.negative ≡ false → b.negative ≡ false → c.negative ≡ false
    → timing_fits (Some (a ∷ b ∷ c ∷ [])) ≡ true
not_negative a b c first second third = rw (first, second, third) refl

timing_numbers_proper : Yields timing_numbers_at (λ timing. IsTiming timing)
unfolding timing_numbers_at
timing_numbers_proper =
    yields_then unsigned_proper λ rate is_rate. yields_after (mark_at 58) λ _. yields_then unsigned_proper λ first is_first.
    yields_after (mark_at 44) λ _. yields_then unsigned_proper λ second is_second.
    yields_value (record {
      numbers = record {
        three = refl;
        numbers = All-push IsDecimal (rate ∷ first ∷ []) second (All-push IsDecimal (rate ∷ []) first
            (All-push IsDecimal [] rate (All-nil IsDecimal) is_rate.decimal) is_first.decimal) is_second.decimal;
      };
      fits = not_negative rate first second is_rate.positive is_first.positive is_second.positive;
    })

timing_proper : Yields timing_at (λ timing. IsTiming timing)
unfolding timing_at
timing_proper = yields_after (word_at (codes "BS_")) λ _. yields_after (mark_at 58) λ _. yields_choose _ timing_numbers_proper
    (yields_value (record { numbers = tt; fits = refl }))

other_timing : (old new : Option (List Decimal)) (messages : List Message) → timing_fits new ≡ true
    → IsTrue (database_fits old messages) → IsTrue (database_fits new messages)
other_timing old new messages timed fits =
    and_from (timing_fits new) (nat_le (length messages) 65535) timed (and_parts (timing_fits old) (nat_le (length messages) 65535)
    fits).1

timed_keeps : (d : Database) → IsDatabase d → Yields (timed_into d) (λ d. IsDatabase d)
unfolding timed_into
timed_keeps d is =
    yields_choose _
    (yields_then timing_proper λ timing is_timing.
    statements_keep (record d { bit_timing = timing })
    (of_parts _ is.version is.symbols is_timing.numbers is.nodes is.tables is.messages is.comments is.definitions is.defaults
    is.attributes is.values is.floats is.muxes is.kept (other_timing d.bit_timing timing d.messages is_timing.fits is.fits)))
    (yields_value is)

empty_is : (version : List ℕ) → IsText version → IsDatabase (empty_database version)
empty_is version is = record {
  version = is;
  symbols = All-nil IsSymbol;
  bit_timing = tt;
  nodes = All-nil IsName;
  tables = All-nil IsTableRow;
  messages = All-nil IsMessage;
  comments = All-nil IsComment;
  definitions = All-nil IsAttrDef;
  defaults = All-nil IsAttrDefault;
  attributes = All-nil IsAttrRow;
  values = All-nil IsValueRow;
  floats = All-nil IsFloatRow;
  muxes = All-nil IsMuxRow;
  kept = All-nil IsKept;
  fits = refl;
}

all_proper : Yields database_at (λ d. IsDatabase d)
unfolding database_at
all_proper =
    yields_then version_proper λ version is_text. yields_then (statements_keep (empty_database version) (empty_is version is_text))
    λ before is_before.
    yields_then (timed_keeps before is_before) λ all is. yields_after end_at λ _. yields_value is

-- a database that is read is one
pub database_is_proper : (cut : Cut) (d : Database) (rest : Cut) → database_at cut ≡ Ok (d, rest) → IsDatabase d
database_is_proper cut d rest e = all_proper.holds cut (d, rest) e

-- ---- one statement

one_of_six_proper : Yields standalone_statement_at IsStatement
unfolding standalone_statement_at
one_of_six_proper =
    yields_choose _ (yields_then (head_proper 0) λ head is. yields_value is.proper)
    (yields_choose _ (yields_then (signal_proper []) λ signal is. yields_value is.proper)
    (yields_choose _ (yields_then table_proper λ row is. yields_value is)
    (yields_choose _ (yields_then values_proper λ row is. yields_value is)
    (yields_choose _ (yields_then mux_proper λ row is. yields_value is)
    (yields_then message_attribute_proper λ row is. yields_value is)))))

alone_proper : Yields statement_at IsStatement
unfolding statement_at
alone_proper = yields_then one_of_six_proper λ statement is. yields_after end_at λ _. yields_value is

-- a statement that is read alone is one
pub statement_is_proper : (cut : Cut) (s : Statement) (rest : Cut) → statement_at cut ≡ Ok (s, rest) → IsStatement s
statement_is_proper cut s rest e = alone_proper.holds cut (s, rest) e
