-- The forms and the ordering rules of a text as one pattern. Statements that begin alike are grouped, so that each token leaves one
-- pattern. Source: the DBC file format, the section of each statement.
use Rattle.std.specs.Prelude.{ℕ, ◌^◌, ◌-◌, true, false, codes}
use Rattle.dbc_records.specs.Records.{most_bytes, most_bits}
use Rattle.dbc_values.specs.Lexical.{opening_parenthesis, closing_parenthesis, plus, comma, minus, colon, semicolon, at_sign}
use Rattle.dbc_values.specs.Lexical.{opening_bracket, closing_bracket, bar}
use Rattle.dbc_reader.specs.Pattern.{Word, Mark, Name, Symbol, String, Whole, Number, Order, Tag, Piece, KeptWord, BeginsMessage}
use Rattle.dbc_reader.specs.Pattern.{BeginsSignal, SignalName, Pattern, Done, ◌⇒◌, Either, Repeat, ◌then◌}

-- ---- parts

abbrev pub perhaps : Pattern → Pattern
perhaps p = Either p Done Done

-- a decimal after an optional sign
abbrev pub decimal : Pattern
decimal = Either (Mark minus ⇒ Number true ⇒ Done) (Either (Mark plus ⇒ Number false ⇒ Done) (Number false ⇒ Done) Done) Done

-- the raw value of an entry: from -2^63 to 2^64 - 1
abbrev pub entry_number : Pattern
entry_number =
    Either (Mark minus ⇒ Whole 0 (2 ^ 63) ⇒ Done)
    (Either (Mark plus ⇒ Whole 0 (2 ^ 64 - 1) ⇒ Done) (Whole 0 (2 ^ 64 - 1) ⇒ Done) Done) Done

-- the CAN identifier of a message
abbrev pub number : Pattern
number = Whole 0 (2 ^ 32 - 1) ⇒ Done

abbrev pub statement_end : Pattern
statement_end = Mark semicolon ⇒ Done

-- any tokens up to the semicolon
abbrev pub kept_rest : Pattern
kept_rest = Repeat (Piece ⇒ Done) statement_end

abbrev pub entries : Pattern
entries = Repeat (entry_number then String ⇒ Done) statement_end

-- ---- statements

abbrev pub symbols : Pattern
symbols = Word (codes "NS_") ⇒ Mark colon ⇒ Repeat (Symbol ⇒ Done) Done

abbrev pub timing : Pattern
timing = Word (codes "BS_") ⇒ Mark colon ⇒ perhaps (Number false ⇒ Mark colon ⇒ Number false ⇒ Mark comma ⇒ Number false ⇒ Done)

abbrev pub nodes : Pattern
nodes = Word (codes "BU_") ⇒ Mark colon ⇒ Repeat (Name ⇒ Done) Done

abbrev pub table : Pattern
table = Word (codes "VAL_TABLE_") ⇒ Name ⇒ entries

abbrev pub head : Pattern
head = BeginsMessage ⇒ Whole 0 (2 ^ 32 - 1) ⇒ Name ⇒ Mark colon ⇒ Whole 0 most_bytes ⇒ Name ⇒ Done

-- `(a,b)`, with these marks
abbrev pub pair : ℕ → ℕ → ℕ → Pattern
pair opening between closing = Mark opening ⇒ (decimal then Mark between ⇒ (decimal then Mark closing ⇒ Done))

abbrev pub receivers : Pattern
receivers = perhaps (Name ⇒ Repeat (Either (Mark comma ⇒ Done) Done (Name ⇒ Done)) Done)

abbrev pub signal : Pattern
signal =
    BeginsSignal ⇒ SignalName ⇒ Either (Mark colon ⇒ Done) (Tag ⇒ Mark colon ⇒ Done)
    (Whole 0 (2 ^ 16 - 1) ⇒ Mark bar ⇒ Whole 1 most_bits ⇒ Mark at_sign ⇒ Order ⇒ Either (Mark minus ⇒ Done) (Mark plus ⇒ Done)
    (pair opening_parenthesis comma closing_parenthesis then (pair opening_bracket bar closing_bracket then (String ⇒ receivers))))

abbrev pub message : Pattern
message = head then Repeat signal Done

-- a node, a message or a signal that a comment or an attribute is about, or nothing
abbrev pub target : Pattern
target =
    Either (Word (codes "BU_") ⇒ Name ⇒ Done)
    (Either (Word (codes "BO_") ⇒ number) (Either (Word (codes "SG_") ⇒ Whole 0 (2 ^ 32 - 1) ⇒ Name ⇒ Done) Done Done) Done) Done

-- a comment, or that of an environment variable, which is kept
abbrev pub comment : Pattern
comment = Word (codes "CM_") ⇒ Either (Word (codes "EV_") ⇒ kept_rest) (target then String ⇒ statement_end) Done

abbrev pub object : Pattern
object =
    Either (Word (codes "BU_") ⇒ Done)
    (Either (Word (codes "BO_") ⇒ Done) (Either (Word (codes "SG_") ⇒ Done) (Either (Word (codes "EV_") ⇒ Done) Done Done) Done)
    Done) Done

abbrev pub limits : Pattern
limits = perhaps (decimal then decimal)

abbrev pub form : Pattern
form =
    Either (Word (codes "INT") ⇒ limits)
    (Either (Word (codes "HEX") ⇒ limits)
    (Either (Word (codes "FLOAT") ⇒ limits)
    (Either (Word (codes "STRING") ⇒ Done) (Word (codes "ENUM") ⇒ String ⇒ Repeat (Mark comma ⇒ String ⇒ Done) Done) Done) Done)
    Done) Done

abbrev pub definition : Pattern
definition = Word (codes "BA_DEF_") ⇒ (object then String ⇒ (form then statement_end))

-- a text or a number
abbrev pub given : Pattern
given = Either (String ⇒ Done) decimal Done

abbrev pub default : Pattern
default = Word (codes "BA_DEF_DEF_") ⇒ String ⇒ (given then statement_end)

-- an attribute, or that of an environment variable, which is kept
abbrev pub attribute : Pattern
attribute = Word (codes "BA_") ⇒ String ⇒ Either (Word (codes "EV_") ⇒ kept_rest) (target then (given then statement_end)) Done

-- value descriptions, or those of an environment variable, which are kept
abbrev pub values : Pattern
values = Word (codes "VAL_") ⇒ Either (Whole 0 (2 ^ 32 - 1) ⇒ Name ⇒ entries) (Name ⇒ kept_rest) Done

abbrev pub float : Pattern
float = Word (codes "SIG_VALTYPE_") ⇒ Whole 0 (2 ^ 32 - 1) ⇒ Name ⇒ Either (Mark colon ⇒ Done) Done (Whole 0 2 ⇒ statement_end)

abbrev pub range : Pattern
range = Whole 0 (2 ^ 64 - 1) ⇒ Mark minus ⇒ Whole 0 (2 ^ 64 - 1) ⇒ Done

abbrev pub mux : Pattern
mux = Word (codes "SG_MUL_VAL_") ⇒ Whole 0 (2 ^ 32 - 1) ⇒ Name ⇒ Name ⇒ (range then Repeat (Mark comma ⇒ range) statement_end)

abbrev pub kept : Pattern
kept = KeptWord ⇒ kept_rest

-- ---- texts

-- the statements of nodes, messages and symbols
abbrev pub objects : Pattern
objects = Either symbols (Either nodes message Done) Done

abbrev pub rows : Pattern
rows = Either table (Either values (Either float mux Done) Done) Done

abbrev pub notes : Pattern
notes = Either comment (Either definition (Either default attribute Done) Done) Done

-- any statement but a bit timing
abbrev pub statement : Pattern
statement = Either objects (Either rows (Either notes kept Done) Done) Done

-- a version only first, and then statements, at most one of them a bit timing
abbrev pub text : Pattern
text =
    Either (Word (codes "VERSION") ⇒ String ⇒ Done) Done
    (Repeat statement (Either (timing then Repeat statement Done) Done Done))

-- ---- one statement on its own

abbrev pub signal_values : Pattern
signal_values = Word (codes "VAL_") ⇒ Whole 0 (2 ^ 32 - 1) ⇒ Name ⇒ entries

abbrev pub message_attribute : Pattern
message_attribute = Word (codes "BA_") ⇒ String ⇒ Word (codes "BO_") ⇒ Whole 0 (2 ^ 32 - 1) ⇒ (given then statement_end)

-- a statement that an edit may name
abbrev pub one_statement : Pattern
one_statement =
    Either head (Either signal (Either table (Either signal_values (Either mux message_attribute Done) Done) Done) Done) Done
